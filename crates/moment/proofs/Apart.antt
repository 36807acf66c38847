-- A step leaves the cores as they were, but for that of the cache whose cell acted.
use Rattle.std.proofs.Common.{◌≡◌, ◌≢◌, ℕ, List, [], ◌∷◌, Bool, true, false, if◌then◌else◌, Option, Some, None, slice_get, refl, subst, sym, ap, ◌∙◌, arith}
use Rattle.std.specs.Prelude.{is_none}
use Rattle.std.specs.Option.{option_map}
use Rattle.base.specs.Steps.{block_of}
use Rattle.base.specs.declared.ids.CacheId.{CacheId}
use Rattle.base.specs.declared.ids.Place.{Place}
use Rattle.base.specs.declared.ids.Place.TheVariants.{Cache}
use Rattle.base.specs.declared.step.CoreAsk.{CoreAsk}
use Rattle.base.specs.declared.step.Step.{Step}
use Rattle.base.specs.declared.step.Step.TheVariants as step
use Rattle.base.specs.declared.step.Outcome.{Outcome}
use Rattle.base.specs.declared.step.Outcome.TheVariants as outcome
use Rattle.control.specs.declared.line.Line.{Line}
use Rattle.control.specs.declared.line.LineCompletion.{LineCompletion}
use Rattle.control.specs.LineEffect.{line_completes}
use Rattle.tables.specs.Tables.{Tables}
use Rattle.machine.specs.declared.decision.Decision.{Decision}
use Rattle.machine.specs.declared.decision.Decision.TheVariants.{Refused, AtLine, AtHome}
use Rattle.machine.specs.declared.decision.Origin.{Origin}
use Rattle.machine.specs.Block.{BlockState}
use Rattle.machine.specs.Completions.{Completion, completed_by}
use Rattle.machine.specs.declared.made.Acted.{Acted}
use Rattle.machine.specs.declared.made.Made.{Made}
use Rattle.machine.specs.Machine.{State}
use Rattle.machine.specs.Made.{IsTold, acted_by, actor_place, is_crowded, made_in, place_of, refused}
use Rattle.machine.specs.Transition.{carried_out, decision_of, outcome_of, transition}
use Rattle.blocks.specs.Looks.{cache_place, place_in}
use Rattle.cores.specs.Cores.{Core, finishing, is_free, issuing, with_core}
use Rattle.blocks.proofs.Going.{Goes, decision-goes}
use Rattle.moment.specs.Moments.{cores_after, put_by, with_finished, with_issued}
use Rattle.moment.proofs.CoreSteps.{with-other}
use Rattle.moment.proofs.Effects.{none-done, none-put}

-- ---- cores that others issue for, or complete

other-free : (cores : List Core) (n m : ℕ) (f : Core → Core) → m ≢ n → is_free (with_core cores n f) m ≡ is_free cores m
other-free cores n m f ne = ap (λ (core : Core). is_none core.outstanding) (with-other cores n m f ne)

-- none of these is of a core
abbrev NoAskOf : ℕ → List CoreAsk → Type 0
NoAskOf core [] = Unit {0}
NoAskOf core (a ∷ asks) = (core ≢ a.core.0) × NoAskOf core asks

abbrev NoneDoneBy : ℕ → List Completion → Type 0
NoneDoneBy core [] = Unit {0}
NoneDoneBy core (c ∷ cs) = (core ≢ c.cache.0) × NoneDoneBy core cs

issued-apart : (asks : List CoreAsk) (cores : List Core) (core : ℕ) → NoAskOf core asks → is_free (with_issued asks cores) core ≡ is_free cores core
issued-apart [] cores core h = refl
issued-apart (a ∷ asks) cores core h =
    issued-apart asks (with_core cores a.core.0 (issuing a.ask)) core h.1 ∙ other-free cores a.core.0 core (issuing a.ask) h.0

finished-apart : (cs : List Completion) (cores : List Core) (core : ℕ) → NoneDoneBy core cs → is_free (with_finished cs cores) core ≡ is_free cores core
finished-apart [] cores core h = refl
finished-apart (c ∷ cs) cores core h =
    finished-apart cs (with_core cores c.cache.0 finishing) core h.1 ∙ other-free cores c.cache.0 core finishing h.0

-- ---- what a step puts and completes

-- an ask of another core, or no ask
abbrev Asks : Step → ℕ → Type 0
Asks (step.Ask cache block a) core = core ≢ cache.0
Asks other core = Unit {0}

-- the completion of another cache, or none
abbrev Completes : Outcome → ℕ → Type 0
Completes (outcome.Load at value) core = core ≢ at.0
Completes (outcome.Store at value) core = core ≢ at.0
Completes other core = Unit {0}

put-apart : (s : Step) (what : Outcome) (core : ℕ) → Asks s core → NoAskOf core (put_by s what)
put-apart s what core h = grind (arith)

done-apart : (s : Step) (what : Outcome) (core : ℕ) → Completes what core → NoneDoneBy core (completed_by s what)
done-apart s what core h = grind (arith)

both-apart : (s : Step) (what : Outcome) (cores : List Core) (core : ℕ) → Asks s core → Completes what core →
    is_free (cores_after s what cores) core ≡ is_free cores core
both-apart s what cores core asks completes =
    finished-apart (completed_by s what) (with_issued (put_by s what) cores) core (done-apart s what core completes)
    ∙ issued-apart (put_by s what) cores core (put-apart s what core asks)

outcome-apart : (cache : CacheId) (from : Origin) (completion : Option LineCompletion) (core : ℕ) → core ≢ cache.0 → Completes
    (outcome_of cache from completion) core
outcome-apart cache from completion core ne = grind (arith)

-- ---- where a step goes

same-cache : (one other : CacheId) → Some (Cache one) ≡ Some (Cache other) → one ≡ other
same-cache one other e = cc e

asked-there : (asked cache : CacheId) (line : Option Line) → cache_place asked line ≡ Some (Cache cache) → asked ≡ cache
asked-there asked cache None e = absurd (cc e)
asked-there asked cache (Some line) e = same-cache asked cache e

asks-there : (s : Step) (b : BlockState) (cache : CacheId) (core : ℕ) → place_in s b ≡ Some (Cache cache) → core ≢ cache.0 → Asks s core
asks-there (step.Ask asked block a) b cache core e ne = λ q. ne (q ∙ ap (λ (c : CacheId). c.0) (asked-there asked cache (slice_get b.lines asked.0) e))
asks-there (step.Request block i) b cache core e ne = tt
asks-there (step.Forward block at) b cache core e ne = tt
asks-there (step.Response block i) b cache core e ne = tt

moved-puts-none : (s : Step) → put_by s outcome.Moved ≡ []
moved-puts-none s = grind (arith)

nothing-put : (s : Step) (what : Outcome) (cores : List Core) (core : ℕ) → put_by s what ≡ [] → completed_by s what ≡ [] →
    is_free (cores_after s what cores) core ≡ is_free cores core
nothing-put s what cores core put finished =
    ap (λ cs. is_free (with_finished cs (with_issued (put_by s what) cores)) core) finished ∙ ap (λ asks. is_free (with_issued asks cores) core) put

abbrev place_by : Decision → Bool → Option Place
place_by d crowded = option_map (λ (acted : Acted). actor_place acted.by) (acted_by d crowded)

free-at : (s : Step) (b : BlockState) (d : Decision) (crowded : Bool) (cores : List Core) (core : CacheId) → Goes d (place_in s b) b.lines →
    place_by d crowded ≢ Some (Cache core) → is_free (cores_after s (carried_out d b).outcome cores) core.0 ≡ is_free cores core.0
free-at s b (Refused what) crowded cores core g ne = nothing-put s what cores core.0 (none-put s what g) (none-done s what g)
free-at s b (AtLine cache line input state actions from) crowded cores core g ne =
    let apart : core.0 ≢ cache.0 = λ e. ne (ap (λ n. Some (Cache (record { 0 = n }))) (sym e)) in
    both-apart s (outcome_of cache from (line_completes input state line)) cores core.0 (asks-there s b cache core.0 g.0 apart)
    (outcome-apart cache from (line_completes input state line) core.0 apart)
free-at s b (AtHome input state actions from) crowded cores core g ne = nothing-put s outcome.Moved cores core.0 (moved-puts-none s) refl

free-in : (tables : Tables) (s : Step) (found : Option BlockState) (cores : List Core) (core : CacheId) → place_of (made_in tables s found) ≢ Some
    (Cache core) →
    is_free (cores_after s (made_in tables s found).outcome cores) core.0 ≡ is_free cores core.0
free-in tables s None cores core ne = nothing-put s outcome.Absent cores core.0 (none-put s outcome.Absent tt) (none-done s outcome.Absent tt)
free-in tables s (Some b) cores core ne =
    free-at s b (decision_of tables s b) (is_crowded (transition tables s b).block) cores core (decision-goes tables s b) ne

free-if : (tables : Tables) (s : Step) (found : Option BlockState) (broken : Bool) (cores : List Core) (core : CacheId) →
    place_of (if broken then refused outcome.Broken else made_in tables s found) ≢ Some (Cache core) →
    is_free (cores_after s (if broken then refused outcome.Broken else made_in tables s found).outcome cores) core.0 ≡ is_free cores core.0
free-if tables s found true cores core ne = nothing-put s outcome.Broken cores core.0 (none-put s outcome.Broken tt) (none-done s outcome.Broken tt)
free-if tables s found false cores core ne = free-in tables s found cores core ne

-- a step leaves it to be whether a core is free, but for that of the cache whose cell acted
pub free-stays : (tables : Tables) (before : State) (s : Step) (made : Made) (behind : State) (cores : List Core) (core : CacheId) →
    IsTold tables before s made behind → place_of made ≢ Some (Cache core) → is_free (cores_after s made.outcome cores) core.0 ≡ is_free cores core.0
free-stays tables before s made behind cores core told ne =
    ap (λ (m : Made). is_free (cores_after s m.outcome cores) core.0) told.told
    ∙ free-if tables s (slice_get before.blocks (block_of s)) before.broken cores core (subst (λ (m : Made). place_of m ≢ Some (Cache core)) told.told ne)
