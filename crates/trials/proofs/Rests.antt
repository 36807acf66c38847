-- Where the tables let no block get stuck and nothing can be chosen, all is at rest.
use Rattle.std.proofs.Common.{◌≡◌, ◌≢◌, ℕ, suc, List, [], ◌∷◌, ◌++◌, map, Option, Some, None, Bool, true, false, ◌&&◌, not, slice_get, refl, sym, ap}
use Rattle.std.proofs.Common.{◌∙◌, IsTrue}
use Rattle.std.specs.Prelude.{if◌then◌else◌}
use Rattle.std.specs.Option.{option_map, option_and_then}
use Rattle.base.specs.Steps.{block_of}
use Rattle.base.specs.declared.ids.BlockId.{BlockId}
use Rattle.base.specs.declared.step.Ask.{Ask}
use Rattle.base.specs.declared.step.CoreAsk.{CoreAsk}
use Rattle.base.specs.declared.step.Step.{Step}
use Rattle.base.specs.declared.step.Outcome.{Outcome}
use Rattle.base.specs.declared.step.Outcome.TheVariants as outcome
use Rattle.network.specs.Traffic.{is_quiet}
use Rattle.control.specs.declared.line.Line.{Line}
use Rattle.machine.specs.Block.{BlockState}
use Rattle.tables.specs.Tables.{Tables}
use Rattle.machine.specs.Transition.{transition}
use Rattle.machine.specs.Machine.{State, Next, is_blank, next, next_at, state_after}
use Rattle.machine.specs.Coherence.{Met}
use Rattle.machine.specs.Unstuck.{Unstuck}
use Rattle.blocks.specs.Looks.{is_held}
use Rattle.world.specs.Looks.{all_quiet}
use Rattle.world.specs.Enabled.{enabled_steps}
use Rattle.cores.specs.Cores.{Core, is_free}
use Rattle.scenario.specs.Taking.{offers}
use Rattle.schedule.specs.Choices.{can_be_put, offers_from, step_of}
use Rattle.schedule.specs.declared.choosing.Choice.TheVariants.{Offer, Deliver}
use Rattle.moment.specs.Moments.{Moment, choices_at}
use Rattle.moment.specs.Moments.{IsAtRest}
use Rattle.moment.proofs.Places.{same-some}
use Rattle.moment.specs.inner.Tracked.{pending_at}
use Rattle.moment.specs.inner.Tracked.{outstanding}
use Rattle.moment.proofs.CoreSteps.{free-tells}
use Rattle.moment.specs.inner.Tracked.{IsTracked, Waits}
use Rattle.schedule.proofs.Disabled.{front-empty, back-empty, nothing-delivers}

-- ---- a world in which no step is blank doesn't break

not-blank : (o : Outcome) → ¬ (o ≡ outcome.Blank) → is_blank o ≡ false
not-blank outcome.Blank ne = absurd (ne refl)
not-blank other ne = refl

whole-at : (tables : Tables) (s : State) (step : Step) (found : Option BlockState) → s.broken ≡ false →
    ¬ ((next_at tables s step found).outcome ≡ outcome.Blank) → (next_at tables s step found).state.broken ≡ false
whole-at tables s step None whole unmet = whole
whole-at tables s step (Some b) whole unmet = not-blank (transition tables step b).outcome unmet

next-is : (tables : Tables) (s : State) (step : Step) → s.broken ≡ false → next tables s step ≡ next_at tables s step (slice_get s.blocks (block_of step))
next-is tables s step whole =
    let broken : Next = record { state = s; outcome = outcome.Broken } in
    ap (λ t. if t then broken else next_at tables s step (slice_get s.blocks (block_of step))) whole

whole-next : (tables : Tables) (s : State) (step : Step) → s.broken ≡ false → ¬ Met tables s step → (next tables s step).state.broken ≡ false
whole-next tables s step whole unmet =
    let is = next-is tables s step whole in
    ap (λ (n : Next). n.state.broken) is ∙ whole-at tables s step (slice_get s.blocks (block_of step)) whole (λ e. unmet (ap (λ (n : Next). n.outcome) is ∙ e))

pub stays-whole : (tables : Tables) (s : State) (steps : List Step) → s.broken ≡ false →
    ((front rest : List Step) (step : Step) → steps ≡ front ++ step ∷ rest → ¬ Met tables (state_after tables s front) step) →
    (state_after tables s steps).broken ≡ false
stays-whole tables s [] whole unmet = whole
stays-whole tables s (x ∷ steps) whole unmet =
    stays-whole tables (next tables s x).state steps (whole-next tables s x whole (unmet [] steps x refl))
    (λ front rest step e. unmet (x ∷ front) rest step (ap (λ l. x ∷ l) e))

-- ---- nothing can be chosen

no-deliveries : (ss : List Step) → map Deliver ss ≡ [] → ss ≡ []
no-deliveries [] e = refl
no-deliveries (s ∷ ss) e = absurd (cc e)

none-chosen : (tables : Tables) (m : Moment) → m.state.broken ≡ false → choices_at tables m ≡ [] →
    (offers_from tables m.state m.cores 0 (offers m.rest) ≡ []) × (enabled_steps tables m.state ≡ [])
none-chosen tables m whole e =
    let all : offers_from tables m.state m.cores 0 (offers m.rest) ++ map Deliver (enabled_steps tables m.state) ≡ [] =
    sym (ap (λ t. if t then [] else (offers_from tables m.state m.cores 0 (offers m.rest) ++ map Deliver (enabled_steps tables m.state))) whole) ∙ e in (
      front-empty (offers_from tables m.state m.cores 0 (offers m.rest)) (map Deliver (enabled_steps tables m.state)) all,
      no-deliveries (enabled_steps tables m.state)
          (back-empty (offers_from tables m.state m.cores 0 (offers m.rest)) (map Deliver (enabled_steps tables m.state)) all),
    )

-- every block is quiet
is-quiet : (t : Bool) → ¬ (¬ IsTrue t) → t ≡ true
is-quiet true h = refl
is-quiet false h = absurd (h (λ e. absurd (cc e)))

blocks-quiet : (bs : List BlockState) → ((k : ℕ) (b : BlockState) → slice_get bs k ≡ Some b → is_quiet b.traffic ≡ true) → all_quiet bs ≡ true
blocks-quiet [] h = refl
blocks-quiet (b ∷ bs) h = ap (λ t. t && all_quiet bs) (h 0 b refl) ∙ blocks-quiet bs (λ k c e. h (suc k) c e)

quiet-at : (tables : Tables) (state : State) → Unstuck tables state → state.broken ≡ false → enabled_steps tables state ≡ [] →
    (k : ℕ) (b : BlockState) → slice_get state.blocks k ≡ Some b → is_quiet b.traffic ≡ true
quiet-at tables state unstuck whole none k b at =
    let block : BlockId = record { 0 = k } in
    is-quiet (is_quiet b.traffic)
    (λ moving. let moves = (unstuck block b at).moves moving in nothing-delivers tables state block b moves.0 whole none at moves.1)

-- nothing is pending
none-pending : (tables : Tables) (state : State) → Unstuck tables state →
    ((k : ℕ) (b : BlockState) → slice_get state.blocks k ≡ Some b → is_quiet b.traffic ≡ true) → (cache block : ℕ) (a : Ask) →
    ¬ (pending_at state cache block ≡ Some (Some a))
none-pending tables state unstuck quiet cache block a = at-block (slice_get state.blocks block) refl
  where
    at-line : (b : BlockState) → slice_get state.blocks block ≡ Some b → (found : Option Line) → slice_get b.lines cache ≡ found →
        ¬ (option_map (λ (line : Line). line.pending) found ≡ Some (Some a))
    at-line b there None at e = absurd (cc e)
    at-line b there (Some line) at e =
        let none : line.pending ≡ None = (unstuck (record { 0 = block }) b there).done (quiet block b there) cache line at in
        let some : line.pending ≡ Some a = same-some line.pending (Some a) e in
        let no = sym none ∙ some in absurd (cc no)

    at-block : (found : Option BlockState) → slice_get state.blocks block ≡ found →
        ¬ (option_map (λ (line : Line). line.pending) (option_and_then (λ b. slice_get b.lines cache) found) ≡ Some (Some a))
    at-block None there e = absurd (cc e)
    at-block (Some b) there e = at-line b there (slice_get b.lines cache) refl e

waits-for-none : (state : State) (core : ℕ) (o : Option Ask) → Waits state core o →
    ((cache block : ℕ) (a : Ask) → ¬ (pending_at state cache block ≡ Some (Some a))) → o ≡ None
waits-for-none state core None waits none = refl
waits-for-none state core (Some a) waits none = absurd (none core waits.0 a waits.1)

-- an offer could be put
not-held : (o : Outcome) → o ≢ outcome.Held → is_held o ≡ false
not-held outcome.Held ne = absurd (ne refl)
not-held other ne = refl

offer-acts : (tables : Tables) (state : State) → Unstuck tables state →
    ((k : ℕ) (b : BlockState) → slice_get state.blocks k ≡ Some b → is_quiet b.traffic ≡ true) → state.broken ≡ false →
    (ask : CoreAsk) (found : Option BlockState) → slice_get state.blocks ask.block.0 ≡ found
    → is_held (next tables state (step_of ask)).outcome ≡ false
offer-acts tables state unstuck quiet whole ask None there =
    ap (λ (n : Next). is_held n.outcome) (next-is tables state (step_of ask) whole ∙ ap (next_at tables state (step_of ask)) there)
offer-acts tables state unstuck quiet whole ask (Some b) there =
    not-held (next tables state (step_of ask)).outcome ((unstuck ask.block b there).ready (quiet ask.block.0 b there) ask.core ask.ask)

none-offered : (tables : Tables) (state : State) (cores : List Core) (asks : List CoreAsk) →
    ((ask : CoreAsk) → can_be_put tables state cores ask ≡ true) → offers_from tables state cores 0 asks ≡ [] → asks ≡ []
none-offered tables state cores [] puts e = refl
none-offered tables state cores (ask ∷ asks) puts e =
    let first = front-empty (if can_be_put tables state cores ask then Offer 0 ask ∷ [] else []) (offers_from tables state cores 1 asks) e in
    let no : Offer 0 ask ∷ [] ≡ [] = sym (ap (λ t. if t then Offer 0 ask ∷ [] else []) (puts ask)) ∙ first in
    absurd (cc no)

-- where nothing can be chosen, all is at rest
pub at-rest : (tables : Tables) (m : Moment) → Unstuck tables m.state → IsTracked m.state m.cores → m.state.broken ≡ false →
    choices_at tables m ≡ [] → IsAtRest m
at-rest tables m unstuck tracked whole e =
    let none = none-chosen tables m whole e in
    let quiet : (k : ℕ) (b : BlockState) → slice_get m.state.blocks k ≡ Some b → is_quiet b.traffic ≡ true = quiet-at tables m.state unstuck whole none.1 in
    let free : (core : ℕ) → is_free m.cores core ≡ true =
    λ core. free-tells m.cores core
    (waits-for-none m.state core (outstanding m.cores core) (tracked.waits core) (none-pending tables m.state unstuck quiet)) in
    record {
      nothing_offered = none-offered tables m.state m.cores (offers m.rest)
          (λ ask. ap (λ t. t && not (is_held (next tables m.state (step_of ask)).outcome)) (free ask.core.0) ∙ ap not
          (offer-acts tables m.state unstuck quiet whole ask (slice_get m.state.blocks ask.block.0) refl)) none.0;
      quiet = blocks-quiet m.state.blocks quiet;
      free = free;
    }
