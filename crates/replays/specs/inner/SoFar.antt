-- How far a replay has come. Only private clauses cite this file.
use Rattle.std.specs.Prelude.{◌≡◌, ℕ, List, Option, map}
use Rattle.base.specs.declared.step.Step.{Step}
use Rattle.base.specs.declared.step.Outcome.{Outcome}
use Rattle.machine.specs.Machine.{opened, state_after, outcomes_of}
use Rattle.world.specs.View.{View}
use Rattle.monitor.specs.declared.violation.Violation.{Violation}
use Rattle.monitor.specs.Watching.{HasSeen}
use Rattle.record_lines.specs.declared.entry.Entry.{Entry}
use Rattle.record.specs.View.{RecordingView}
use Rattle.monitor.specs.Violations.{AnswersFirst}

-- the steps of entries
abbrev pub steps_in : List Entry → List Step
steps_in entries = map (λ e. e.step) entries

-- the outcomes of entries
abbrev pub outcomes_in : List Entry → List Outcome
outcomes_in entries = map (λ e. e.outcome) entries

-- the entries so far have been made as they are told
pub record IsSoFar (r : RecordingView) (done : List Entry) (world : View) (watch : List ℕ) (violation : Option (ℕ × Violation)) : Type 0 where
  pub shape : world.shape ≡ r.shape
  pub tables : world.tables ≡ r.tables
  pub state : world.state ≡ state_after r.tables (opened r.shape r.opening) (steps_in done)
  pub seen : HasSeen world r.opening (steps_in done) watch
  pub legal : outcomes_in done ≡ outcomes_of r.tables (opened r.shape r.opening) (steps_in done)
  pub first : AnswersFirst r.shape r.tables r.opening (steps_in done) violation
