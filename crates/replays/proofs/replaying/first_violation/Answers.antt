use Rattle.std.proofs.Common.{◌≡◌, ℕ, List, Option, None, Result, Ok, Err}
use Rattle.std.specs.Prelude.{◌↔◌, IfOk}
use Rattle.machine.specs.Coherence.{Safe}
use Rattle.machine.specs.Restraint.{AreRestrained}
use Rattle.monitor.specs.declared.violation.Violation.{Violation}
use Rattle.monitor.specs.Violations.{AnswersFirst}
use Rattle.world.specs.View.{View}
use Rattle.record.specs.View.{RecordingView, steps_of}
use Rattle.replays.specs.declared.replaying.ReplayFault.{ReplayFault}
use Rattle.replays.specs.Replaying.{FindsViolation}
use Rattle.replays.specs.inner.SoFar.{IsSoFar}
use Rattle.replays.proofs.Makings.{none-made}
use Rattle.replays.proofs.replaying.first_violation.Goals as goal

pub make_all-requires : goal.make_all-requires
make_all-requires c =
    none-made c.args.recording.now c.shape.result c.tables.result c.opening.result.now c.in-Ok.run' c.shape.ensures.value c.tables.ensures
    c.opening.ensures.value (c.in-Ok.ensures 0)

-- where the first violation is known, none is the same as safety
known : (r : Result (Option (ℕ × Violation)) ReplayFault) (told : RecordingView) (world : View) (watch : List ℕ) →
    ((answer : Option (ℕ × Violation)) → AnswersFirst told.shape told.tables told.opening (steps_of told) answer →
    answer ≡ None ↔ Safe told.shape told.tables told.opening (steps_of told)) →
    ((answer : Option (ℕ × Violation)) → AreRestrained told.tables → AnswersFirst told.shape told.tables told.opening (steps_of told) answer →
    answer ≡ None) →
    IfOk r (λ violation. IsSoFar told told.entries world watch violation) → IfOk r (FindsViolation told)
known (Ok violation) told world watch none clean made = record {
  legal = made.legal;
  first = made.first;
  safe = none violation made.first;
  clean = λ restrained. clean violation restrained made.first;
}
known (Err fault) told world watch none clean made = tt

pub returns-clause-finds : goal.returns-clause-finds
returns-clause-finds c =
    let told = c.args.recording.now in
    known c.make_all.result told c.make_all.new.run.world c.make_all.new.run.watch
    (c.violations_are_what_isnt_safe.ensures.answer told.shape told.tables told.opening (steps_of told))
    (λ answer restrained first.
    c.no_violation_under_restrained_tables.ensures.answer told.shape told.tables told.opening (steps_of told) answer restrained
    c.shape.ensures.within c.opening.ensures.each first)
    c.make_all.ensures.ok
