-- A step changes the line of the cache whose cell acts alone; and whether an ask is held is a matter of its line's state.
use Rattle.std.proofs.Common.{◌≡◌, ◌≢◌, ℕ, List, Option, Some, None, Bool, true, false, ◌&&◌, if◌then◌else◌, inl, inr}
use Rattle.std.proofs.Common.{slice_get, slice_set, refl, sym, ap, ◌∙◌, subst}
use Rattle.std.proofs.Math.Bool.{beq}
use Rattle.std.proofs.lemmas.Bool.{cases_eq}
use Rattle.std.proofs.lemmas.Option.{slice_get_within}
use Rattle.std.specs.Option.{option_and_then, option_map}
use Rattle.base.specs.Steps.{block_of}
use Rattle.base.specs.declared.ids.BlockId.{BlockId}
use Rattle.base.specs.declared.ids.CacheId.{CacheId}
use Rattle.base.specs.declared.ids.Place.{Place}
use Rattle.base.specs.declared.ids.Place.TheVariants.{Cache, Dir}
use Rattle.base.specs.declared.step.Ask.{Ask}
use Rattle.base.specs.declared.step.Ask.TheVariants as ask
use Rattle.base.specs.declared.step.CoreAsk.{CoreAsk}
use Rattle.base.specs.declared.step.Step.{Step}
use Rattle.base.specs.declared.step.Step.TheVariants as step
use Rattle.base.specs.declared.step.Outcome.TheVariants as outcome
use Rattle.cache_table.specs.Table as cache_table
use Rattle.cache_table.specs.declared.state.CacheState.{CacheState}
use Rattle.control.specs.declared.line.Line.{Line}
use Rattle.control.specs.declared.line.LineCompletion.{LineCompletion}
use Rattle.control.specs.declared.line.LineCompletion.TheVariants as done
use Rattle.control.specs.declared.line.LineInput.{LineInput}
use Rattle.control.specs.declared.line.LineInput.TheVariants as line_input
use Rattle.control.specs.LineEffect.{after_settling, line_after, line_completes, moved_on}
use Rattle.machine.specs.declared.decision.Decision.{Decision}
use Rattle.machine.specs.declared.decision.Decision.TheVariants.{Refused, AtLine, AtHome}
use Rattle.machine.specs.declared.made.Acted.{Acted}
use Rattle.machine.specs.declared.made.Actor.{Actor}
use Rattle.machine.specs.declared.made.Actor.TheVariants as actor
use Rattle.machine.specs.declared.made.Made.{Made}
use Rattle.tables.specs.Tables.{Tables}
use Rattle.machine.specs.Block.{BlockState, opened_block}
use Rattle.machine.specs.Coherence.{line_at}
use Rattle.machine.specs.Made.{IsTold, acted_by, actor_place, is_crowded, made_in, made_of, place_of, refused}
use Rattle.machine.specs.Transition.{at_ask, carried_out, decided_outcome, decision_of, transition}
use Rattle.machine.specs.Machine.{State, Next, next, next_at}
use Rattle.machine.proofs.Places.{slice_get-set_other, slice_get-set_same}
use Rattle.blocks.specs.Asking.{holds, stalls_in}
use Rattle.blocks.specs.declared.block.asking.HeldAsks.{HeldAsks}
use Rattle.blocks.specs.Looks.{is_held, place_in}
use Rattle.blocks.specs.Marking.{ask_stalls}
use Rattle.blocks.proofs.Going.{Goes, decision-goes}
use Rattle.blocks.proofs.Holding.{held-ask}
use Rattle.cores.specs.Cores.{Core}
use Rattle.lanes.specs.Lanes.{FollowsStep}
use Rattle.lanes.specs.inner.Changes.{AgreeBut}
use Rattle.schedule.specs.Marks.{AreHeldAt}

-- ---- what a step leaves of the lines

other-cache : (cache other : CacheId) → Some (Cache cache) ≢ Some (Cache other) → other.0 ≢ cache.0
other-cache cache other ne e = ne (ap (λ n. Some (Cache (record { 0 = n }))) (sym e))

-- where a cell acted at a line, that was there and went so
LineWent : Actor → BlockState → BlockState → Type 0
LineWent actor.Home b new = Unit {0}
LineWent (actor.Line cache before after) b new =
    (old : Line) × (line : Line) × (slice_get b.lines cache.0 ≡ Some old) × (old.state ≡ before) × (slice_get new.lines cache.0 ≡ Some line) ×
    (line.state ≡ after)

WentIn : Option Acted → BlockState → BlockState → Type 0
WentIn None b new = Unit {0}
WentIn (Some acted) b new = LineWent acted.by b new

settling-leaves : (input : LineInput) (completion : Option LineCompletion) (line : Line) → (after_settling input completion line).state ≡ line.state
settling-leaves (line_input.Ask ask.Load) None line = refl
settling-leaves (line_input.Ask (ask.Store value)) None line = refl
settling-leaves (line_input.Ask ask.Replace) None line = refl
settling-leaves (line_input.Ask a) (Some (done.Load value)) line = refl
settling-leaves (line_input.Ask a) (Some (done.Store value)) line = refl
settling-leaves (line_input.Forward f) None line = refl
settling-leaves (line_input.Forward f) (Some (done.Load value)) line = refl
settling-leaves (line_input.Forward f) (Some (done.Store value)) line = refl
settling-leaves (line_input.Response r) None line = refl
settling-leaves (line_input.Response r) (Some (done.Load value)) line = refl
settling-leaves (line_input.Response r) (Some (done.Store value)) line = refl

went-in : (d : Decision) (at : Option Place) (b : BlockState) (crowded : Bool) → Goes d at b.lines → WentIn (acted_by d crowded) b (carried_out d b).block
unfolding WentIn LineWent
went-in (Refused what) at b crowded g = tt
went-in (AtLine cache line input next actions from) at b crowded g = (
  line,
  line_after input next line,
  sym g.1,
  refl,
  slice_get-set_same b.lines cache.0 (line_after input next line) (slice_get_within b.lines cache.0 line (sym g.1)),
  settling-leaves input (line_completes input next line) (moved_on input next line),
)
went-in (AtHome input next actions from) at b crowded g = tt

lines-left : (d : Decision) (crowded : Bool) (b : BlockState) (other : CacheId) →
    option_map (λ (acted : Acted). actor_place acted.by) (acted_by d crowded) ≢ Some (Cache other) →
    slice_get (carried_out d b).block.lines other.0 ≡ slice_get b.lines other.0
lines-left (Refused what) crowded b other ne = refl
lines-left (AtLine cache line input next actions from) crowded b other ne = slice_get-set_other b.lines cache.0 other.0 _ (other-cache cache other ne)
lines-left (AtHome input next actions from) crowded b other ne = refl

abbrev line_in : ℕ → Option BlockState → Option Line
line_in cache b = option_and_then (λ b. slice_get b.lines cache) b

-- what is made of a block that is there, or of none
lines-at : (tables : Tables) (s : State) (step : Step) (found : Option BlockState) (other : CacheId) (block : ℕ) →
    slice_get s.blocks (block_of step) ≡ found → place_of (made_in tables step found) ≢ Some (Cache other) →
    line_at (next_at tables s step found).state other.0 block ≡ line_at s other.0 block
lines-at tables s step None other block there ne = refl
lines-at tables s step (Some b) other block there ne =
    let new : BlockState = (transition tables step b).block in
    elim (cases_eq block (block_of step)) [
      | inl e ↦
          ap (λ n. line_in other.0 (slice_get (slice_set s.blocks (block_of step) new) n)) e ∙ ap (line_in other.0)
          (slice_get-set_same s.blocks (block_of step) new (slice_get_within s.blocks (block_of step) b there))
          ∙ lines-left (decision_of tables step b) (is_crowded new) b other ne
          ∙ sym (ap (λ n. line_in other.0 (slice_get s.blocks n)) e ∙ ap (line_in other.0) there)
      | inr apart ↦ ap (line_in other.0) (slice_get-set_other s.blocks (block_of step) block new apart)
    ]

blocks-at : (tables : Tables) (s : State) (step : Step) (found : Option BlockState) (core block : ℕ) → block ≢ block_of step →
    line_at (next_at tables s step found).state core block ≡ line_at s core block
blocks-at tables s step None core block ne = refl
blocks-at tables s step (Some b) core block ne = ap (line_in core) (slice_get-set_other s.blocks (block_of step) block (transition tables step b).block ne)

pub next-sound : (tables : Tables) (s : State) (step : Step) → s.broken ≡ false → next tables s step ≡ next_at tables s step
    (slice_get s.blocks (block_of step))
next-sound tables s step e =
    ap (λ t. if t then record { state = s; outcome = outcome.Broken } else next_at tables s step (slice_get s.blocks (block_of step))) e

pub made-sound : (tables : Tables) (s : State) (step : Step) → s.broken ≡ false → made_of tables s step ≡ made_in tables step
    (slice_get s.blocks (block_of step))
made-sound tables s step e = ap (λ t. if t then refused outcome.Broken else made_in tables step (slice_get s.blocks (block_of step))) e

next-broken : (tables : Tables) (s : State) (step : Step) → s.broken ≡ true → (next tables s step).state.broken ≡ true
next-broken tables s step e =
    ap (λ t. (if t then record { state = s; outcome = outcome.Broken } else next_at tables s step (slice_get s.blocks (block_of step))).state.broken) e ∙ e

-- a world that isn't broken behind a step wasn't before it
pub was-sound : (tables : Tables) (s : State) (step : Step) → (next tables s step).state.broken ≡ false → s.broken ≡ false
was-sound tables s step e = by_case s.broken refl
  where
    by_case : (t : Bool) → s.broken ≡ t → s.broken ≡ false
    by_case false q = q
    by_case true q = let both = sym (next-broken tables s step q) ∙ e in absurd (cc both)

-- so two moments agree on each core but that of the cache whose cell acted, and on all lines but those of the step's block
pub agree-but : (tables : Tables) (step : Step) (made : Made) (before behind : State) (cb cn : List Core) → before.broken ≡ false →
    FollowsStep tables step made before behind cb cn → AgreeBut (place_of made) (block_of step) before behind cb cn
agree-but tables step made before behind cb cn sound f =
    let found = slice_get before.blocks (block_of step) in
    let came : behind ≡ (next_at tables before step found).state = f.told.state ∙ ap (λ (n : Next). n.state) (next-sound tables before step sound) in
    let told : made ≡ made_in tables step found = f.told.told ∙ made-sound tables before step sound in
    record {
      cores = λ core ne. record {
        free = f.free core ne;
        lines = λ block. ap (λ (s : State). line_at s core.0 block) came
            ∙ lines-at tables before step found core block refl (subst (λ (m : Made). place_of m ≢ Some (Cache core)) told ne);
      };
      blocks = λ core other ne. ap (λ (s : State). line_at s core other) came ∙ blocks-at tables before step found core other ne;
    }

-- ---- where a line went

went-at : (tables : Tables) (s : State) (step : Step) (found : Option BlockState) (acted : Acted) → slice_get s.blocks (block_of step) ≡ found →
    (made_in tables step found).acted ≡ Some acted →
    (b : BlockState) × (new : BlockState) × (slice_get s.blocks (block_of step) ≡ Some b)
    × (slice_get (next_at tables s step found).state.blocks (block_of step) ≡ Some new) × LineWent acted.by b new
unfolding WentIn
went-at tables s step None acted there e = absurd (cc e)
went-at tables s step (Some b) acted there e =
    let new : BlockState = (transition tables step b).block in (
      b,
      new,
      there,
      slice_get-set_same s.blocks (block_of step) new (slice_get_within s.blocks (block_of step) b there),
      in-some acted e (went-in (decision_of tables step b) (place_in step b) b (is_crowded new) (decision-goes tables step b)),
    )
  where
    in-some : (acted : Acted) → (made_in tables step (Some b)).acted ≡ Some acted → WentIn (made_in tables step (Some b)).acted b
        (transition tables step b).block →
        LineWent acted.by b (transition tables step b).block
    in-some acted e w = subst (λ o. WentIn o b (transition tables step b).block) e w

-- ---- whose cell acted

abbrev place_in_acted : Option Acted → Option Place
place_in_acted o = option_map (λ (acted : Acted). actor_place acted.by) o

same-place : (p q : Place) → Some p ≡ Some q → p ≡ q
same-place p q e = cc e

-- where none did, or the home's, no cache's did
pub nowhere : (made : Made) → made.acted ≡ None → (core : CacheId) → place_of made ≢ Some (Cache core)
nowhere made is core e = absurd (let none : None ≡ Some (Cache core) = sym (ap place_in_acted is) ∙ e in cc none)

pub at-home : (made : Made) (acted : Acted) → made.acted ≡ Some acted → acted.by ≡ actor.Home → (core : CacheId) → place_of made ≢ Some (Cache core)
at-home made acted is home core e =
    absurd (let dir : Some Dir ≡ Some (Cache core) = ap (λ (a : Actor). Some (actor_place a)) (sym home) ∙ sym (ap place_in_acted is) ∙ e in
    cc (same-place Dir (Cache core) dir))

pub at-line : (made : Made) (acted : Acted) (cache : CacheId) (from to : CacheState) → made.acted ≡ Some acted → acted.by ≡ actor.Line cache from to →
    place_of made ≡ Some (Cache cache)
at-line made acted cache from to is line = ap place_in_acted is ∙ ap (λ (a : Actor). Some (actor_place a)) line

pub none-acted : (o : Option Acted) → ((acted : Acted) → o ≢ Some acted) → o ≡ None
none-acted None h = refl
none-acted (Some acted) h = absurd (h acted refl)

pub home-only : (by : Actor) → ((cache : CacheId) (from to : CacheState) → by ≢ actor.Line cache from to) → by ≡ actor.Home
home-only actor.Home h = refl
home-only (actor.Line cache from to) h = absurd (h cache from to refl)

-- where a cache's did, two moments agree but for that cache
pub agree-line : (tables : Tables) (step : Step) (made : Made) (before behind : State) (acted : Acted) (cache : CacheId) (block : BlockId)
    (from to : CacheState)
    (cb cn : List Core) → before.broken ≡ false → block.0 ≡ block_of step → FollowsStep tables step made before behind cb cn → made.acted ≡ Some acted →
    acted.by ≡ actor.Line cache from to → AgreeBut (Some (Cache cache)) block.0 before behind cb cn
agree-line tables step made before behind acted cache block from to cb cn sound here f is by =
    subst (λ n. AgreeBut (Some (Cache cache)) n before behind cb cn) (sym here)
    (subst (λ p. AgreeBut p (block_of step) before behind cb cn) (at-line made acted cache from to is by)
    (agree-but tables step made before behind cb cn sound f))

-- ---- an ask is held where its line holds it

abbrev pub asked : Tables → CoreAsk → Option Line → Bool
asked tables ask line = is_held (decided_outcome (at_ask tables.cache ask.core ask.ask line))

pub outcome-is : (d : Decision) (b : BlockState) → (carried_out d b).outcome ≡ decided_outcome d
outcome-is (Refused what) b = refl
outcome-is (AtLine cache line input state actions from) b = refl
outcome-is (AtHome input state actions from) b = refl

abbrev step_of_ask : CoreAsk → Step
step_of_ask ask = step.Ask ask.core ask.block ask.ask

asked-at : (tables : Tables) (s : State) (ask : CoreAsk) (found : Option BlockState) →
    is_held (next_at tables s (step_of_ask ask) found).outcome ≡ asked tables ask (line_in ask.core.0 found)
asked-at tables s ask None = refl
asked-at tables s ask (Some b) = ap is_held (outcome-is (at_ask tables.cache ask.core ask.ask (slice_get b.lines ask.core.0)) b)

pub held-by-line : (tables : Tables) (s : State) (ask : CoreAsk) → s.broken ≡ false →
    is_held (next tables s (step_of_ask ask)).outcome ≡ asked tables ask (line_at s ask.core.0 ask.block.0)
held-by-line tables s ask sound =
    ap (λ (n : Next). is_held n.outcome) (next-sound tables s (step_of_ask ask) sound) ∙ asked-at tables s ask (slice_get s.blocks ask.block.0)

-- ---- and there where the line's state does

-- these of the asks of a line in a state are held
abbrev pub HoldsIn : cache_table.Cells → HeldAsks → CacheState → Type 0
HoldsIn cells held state = (a : Ask) → holds held a ≡ stalls_in cells a state

by-state : (cells : cache_table.Cells) (a : Ask) (line : Line) → ask_stalls cells a (Some line) ≡ stalls_in cells a line.state
by-state cells a line = refl

asked-by-state : (tables : Tables) (ask : CoreAsk) (line : Line) → asked tables ask (Some line) ≡ stalls_in tables.cache ask.ask line.state
asked-by-state tables ask line =
    ap is_held (sym (outcome-is (at_ask tables.cache ask.core ask.ask (Some line)) (opened_block 0 0)))
    ∙ held-ask tables.cache ask.core ask.ask (Some line) (opened_block 0 0)
    ∙ by-state tables.cache ask.ask line

held-at : (tables : Tables) (s : State) (core : CacheId) (block : BlockId) (line : Line) (state : CacheState) (held : HeldAsks) → s.broken ≡ false →
    line_at s core.0 block.0 ≡ Some line → line.state ≡ state → HoldsIn tables.cache held state → AreHeldAt tables s core block held
held-at tables s core block line state held sound there is all a =
    let ask : CoreAsk = record { core = core; block = block; ask = a } in
    all a ∙ ap (stalls_in tables.cache a) (sym is) ∙ sym (asked-by-state tables ask line) ∙ ap (asked tables ask) (sym there) ∙ sym
    (held-by-line tables s ask sound)

both-true : (x y : Bool) → x && y ≡ true → (x ≡ true) × (y ≡ true)
both-true true true e = (refl, refl)
both-true true false e = absurd (cc e)
both-true false y e = absurd (cc e)

same-bool : (x y : Bool) → beq x y ≡ true → x ≡ y
same-bool true true e = refl
same-bool true false e = absurd (cc e)
same-bool false true e = absurd (cc e)
same-bool false false e = refl

-- what is told to be the same holds the same
pub same-asks : (x y : HeldAsks) → beq x.load y.load && (beq x.store y.store && beq x.replace y.replace) ≡ true → (a : Ask) → holds x a ≡ holds y a
same-asks x y e ask.Load = same-bool x.load y.load (both-true (beq x.load y.load) _ e).0
same-asks x y e (ask.Store value) =
    same-bool x.store y.store (both-true (beq x.store y.store) _ (both-true (beq x.load y.load) _ e).1).0
same-asks x y e ask.Replace =
    same-bool x.replace y.replace (both-true (beq x.store y.store) _ (both-true (beq x.load y.load) _ e).1).1

-- what is held of a line that a step was told to have changed, before it and behind it
pub record HeldBoth (tables : Tables) (before behind : State) (cache : CacheId) (block : BlockId) (from to : CacheState) : Type 0 where
  pub were : (held : HeldAsks) → HoldsIn tables.cache held from → AreHeldAt tables before cache block held
  pub are : (held : HeldAsks) → HoldsIn tables.cache held to → AreHeldAt tables behind cache block held

pub held-told : (tables : Tables) (step : Step) (made : Made) (before behind : State) (acted : Acted) (cache : CacheId) (block : BlockId)
    (from to : CacheState) →
    before.broken ≡ false → behind.broken ≡ false → block.0 ≡ block_of step → IsTold tables before step made behind → made.acted ≡ Some acted →
    acted.by ≡ actor.Line cache from to → HeldBoth tables before behind cache block from to
unfolding LineWent
held-told tables step made before behind acted cache block from to sb sn here t is by =
    let found = slice_get before.blocks (block_of step) in
    let came : behind ≡ (next_at tables before step found).state = t.state ∙ ap (λ (n : Next). n.state) (next-sound tables before step sb) in
    let told : made ≡ made_in tables step found = t.told ∙ made-sound tables before step sb in
    let w = went-at tables before step found acted refl (sym (ap (λ (m : Made). m.acted) told) ∙ is) in
    let line : LineWent (actor.Line cache from to) w.0 w.1 = subst (λ (a : Actor). LineWent a w.0 w.1) by w.4 in
    record {
      were = λ held all. held-at tables before cache block line.0 from held sb
          (ap (λ n. line_in cache.0 (slice_get before.blocks n)) here ∙ ap (line_in cache.0) w.2 ∙ line.2) line.3 all;
      are = λ held all. held-at tables behind cache block line.1 to held sn
          (ap (λ n. line_in cache.0 (slice_get behind.blocks n)) here ∙ ap (λ (s : State). line_in cache.0 (slice_get s.blocks (block_of step))) came
          ∙ ap (line_in cache.0) w.3 ∙ line.4) line.5 all;
    }
