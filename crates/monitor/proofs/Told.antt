-- What is told of a step says where nothing can be wrong.
use Rattle.std.proofs.Common.{◌≡◌, ◌≢◌, ℕ, Bool, true, false, if◌then◌else◌, List, Option, Some, None, inl, inr, count_by}
use Rattle.std.proofs.Common.{slice_get, refl, arith}
use Rattle.std.proofs.lemmas.Bool.{cases_lt}
use Rattle.std.proofs.lemmas.Option.{slice_get_within}
use Rattle.std.proofs.lemmas.Bool.Decides.{nat_tests}
use Rattle.base.specs.Steps.{block_of}
use Rattle.base.specs.declared.ids.CacheId.{CacheId}
use Rattle.base.specs.declared.ids.Place.{Place}
use Rattle.base.specs.declared.step.Step.{Step}
use Rattle.base.specs.declared.step.Outcome.{Outcome}
use Rattle.base.specs.declared.step.Outcome.TheVariants as outcome
use Rattle.control.specs.declared.line.Line.{Line}
use Rattle.control.specs.declared.line.LineCompletion.{LineCompletion}
use Rattle.control.specs.declared.line.LineCompletion.TheVariants as done
use Rattle.control.specs.LineEffect.{is_reader, is_writer, line_completes}
use Rattle.tables.specs.Tables.{Tables}
use Rattle.machine.specs.declared.decision.Decision.{Decision}
use Rattle.machine.specs.declared.decision.Decision.TheVariants.{Refused, AtLine, AtHome}
use Rattle.machine.specs.declared.decision.Origin.{Origin}
use Rattle.machine.specs.declared.decision.Origin.TheVariants as origin
use Rattle.machine.specs.declared.made.Made.{Made}
use Rattle.machine.specs.Block.{BlockState}
use Rattle.machine.specs.Machine.{IsRefusal, State, is_blank, next, next_at}
use Rattle.machine.specs.Made.{WasTold, acted_by, is_crowded, made_in, refused}
use Rattle.machine.specs.Transition.{carried_out, decision_of, outcome_of, transition}
use Rattle.machine.proofs.Places.{slice_get-set_same}
use Rattle.blocks.specs.Looks.{place_in}
use Rattle.blocks.proofs.Going.{Goes, decision-goes}
use Rattle.blocks.proofs.Writers.{writer-uncounted}
use Rattle.monitor.specs.Scenes.{IsLookedAt}
use Rattle.monitor.specs.Finding.{IsUncrowded, is_suspect}

-- what came of a cell that acted is no blank
acts-on : (cache : CacheId) (from : Origin) (completion : Option LineCompletion) → outcome_of cache from completion ≢ outcome.Blank
acts-on cache origin.Core None e = absurd (cc e)
acts-on cache (origin.Request i) None e = absurd (cc e)
acts-on cache (origin.Head at) None e = absurd (cc e)
acts-on cache (origin.Response i) None e = absurd (cc e)
acts-on cache from (Some (done.Load value)) e = absurd (cc e)
acts-on cache from (Some (done.Store value)) e = absurd (cc e)

-- of the refusals only a blank is looked at
refusal : (P : Type 0) (what : Outcome) → IsRefusal what → is_blank what ≡ false → (what ≢ outcome.Blank) × (IsLookedAt what → P)
refusal P outcome.Sent r e = absurd r
refusal P outcome.Moved r e = absurd r
refusal P (outcome.Load cache value) r e = absurd r
refusal P (outcome.Store cache value) r e = absurd r
refusal P outcome.Held r e = (λ q. absurd (cc q), λ looked. absurd looked)
refusal P outcome.Absent r e = (λ q. absurd (cc q), λ looked. absurd looked)
refusal P outcome.Idle r e = (λ q. absurd (cc q), λ looked. absurd looked)
refusal P outcome.Blank r e = absurd (cc e)
refusal P outcome.Broken r e = (λ q. absurd (cc q), λ looked. absurd looked)

abbrev told_by : Decision → BlockState → Made
told_by d b = record { outcome = (carried_out d b).outcome; acted = acted_by d (is_crowded (carried_out d b).block) }

by-decision : (d : Decision) (at : Option Place) (lines : List Line) (b : BlockState) → Goes d at lines → is_suspect (told_by d b) ≡ false →
    ((carried_out d b).outcome ≢ outcome.Blank) × (IsLookedAt (carried_out d b).outcome → is_crowded (carried_out d b).block ≡ false)
by-decision (Refused what) at lines b goes e = refusal (is_crowded b ≡ false) what goes e
by-decision (AtLine cache line input next actions from) at lines b goes e = (acts-on cache from (line_completes input next line), λ looked. e)
by-decision (AtHome input next actions from) at lines b goes e = (λ q. absurd (cc q), λ looked. e)

-- a block that isn't crowded is no crowd among the others
alone : (s : State) (block : ℕ) (b : BlockState) → slice_get s.blocks block ≡ Some b → is_crowded b ≡ false → IsUncrowded s block
alone s block b there e =
    let readers = count_by (λ (l : Line). is_reader l.state) b.lines in
    let writers = count_by (λ (l : Line). is_writer l.state) b.lines in
    rw there (elim (cases_lt 1 readers) [
      | inr few ↦ inl few
      | inl many ↦ elim (cases_lt 0 writers) [
        | inr none ↦ inr (writer-uncounted b.lines 0 none)
        | inl some ↦ absurd (grind (arith, nat_tests, many, some, e))
      ]
    ])

in-state : (tables : Tables) (s : State) (step : Step) (found : Option BlockState) → slice_get s.blocks (block_of step) ≡ found →
    is_suspect (made_in tables step found) ≡ false →
    ((made_in tables step found).outcome ≢ outcome.Blank)
    × (IsLookedAt (made_in tables step found).outcome → IsUncrowded (next_at tables s step found).state (block_of step))
in-state tables s step None there e = (λ q. absurd (cc q), λ looked. absurd looked)
in-state tables s step (Some b) there e =
    let new = (transition tables step b).block in
    let told = by-decision (decision_of tables step b) (place_in step b) b.lines b (decision-goes tables step b) e in (
      told.0,
      λ looked. alone (next_at tables s step (Some b)).state (block_of step) new (slice_get-set_same s.blocks (block_of step) new
          (slice_get_within s.blocks (block_of step) b there)) (told.1 looked),
    )

by-broken : (tables : Tables) (s : State) (step : Step) (broken : Bool) →
    is_suspect (if broken then refused outcome.Broken else made_in tables step (slice_get s.blocks (block_of step))) ≡ false →
    ((if broken then refused outcome.Broken else made_in tables step (slice_get s.blocks (block_of step))).outcome ≢ outcome.Blank)
    × (IsLookedAt (if broken then refused outcome.Broken else made_in tables step (slice_get s.blocks (block_of step))).outcome →
    IsUncrowded (if broken then record { state = s; outcome = outcome.Broken } else next_at tables s step (slice_get s.blocks (block_of step))).state
    (block_of step))
by-broken tables s step true e = (λ q. absurd (cc q), λ looked. absurd looked)
by-broken tables s step false e = in-state tables s step (slice_get s.blocks (block_of step)) refl e

-- where what is told isn't suspect no cell was blank, and the block isn't crowded if the step is looked at
pub unsuspected : (tables : Tables) (step : Step) (made : Made) (behind : State) → WasTold tables step made behind → is_suspect made ≡ false →
    (made.outcome ≢ outcome.Blank) × (IsLookedAt made.outcome → IsUncrowded behind (block_of step))
unsuspected tables step made behind was e =
    rw (was.1.told, was.1.state) (by-broken tables was.0 step was.0.broken (rw was.1.told at e))
