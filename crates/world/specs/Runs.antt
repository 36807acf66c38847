use Rattle.std.specs.Prelude.{◌≡◌, ◌<◌, ◌≤◌, ℕ, List, [], ◌∷◌, ◌++◌, Some, length, slice_get, take}
use Rattle.base.specs.Steps.{block_of}
use Rattle.base.specs.declared.step.Step.{Step}
use Rattle.base.specs.declared.step.Outcome.{Outcome}
use Rattle.tables.specs.Tables.{Tables}
use Rattle.machine.specs.Machine.{State, next, state_after, outcomes_of, sent_by}
use Rattle.world.specs.Coherent.{HasBeenSafe, IsUnstuck}
use Rattle.world.specs.Keeping.{KeepsOthers}
use Rattle.world.specs.Messages.{messages_at, raised}
use Rattle.world.specs.OneStep.{IsAsBefore, NeedsNoMemory}
use Rattle.world.specs.View.{LeadsOn, View}

-- the count of tested messages after these steps, if each tests no more than what it sends
abbrev pub tested_at_least : Tables → State → List Step → ℕ → ℕ
tested_at_least tables s [] count = count
tested_at_least tables s (step ∷ steps) count =
    tested_at_least tables (next tables s step).state steps (raised count (length (sent_by tables s step)))

-- the same, if each tests all that its block has after it
abbrev pub tested_at_most : Tables → State → List Step → ℕ → ℕ
tested_at_most tables s [] count = count
tested_at_most tables s (step ∷ steps) count =
    tested_at_most tables (next tables s step).state steps (raised count (messages_at (next tables s step).state (block_of step)))

-- a world has made these steps, and their outcomes stand behind those that stood there before
pub record IsRun (old : View) (steps : List Step) (before : List Outcome) (new : View) (after : List Outcome) : Type 0 where
  pub state : new.state ≡ state_after old.tables old.state steps
  pub outcomes : after ≡ before ++ outcomes_of old.tables old.state steps
  pub shape : new.shape ≡ old.shape
  pub tables : new.tables ≡ old.tables
  pub opening : new.opening ≡ old.opening
  pub tests_what_they_send : tested_at_least old.tables old.state steps old.tested ≤ new.tested
  pub tests_their_blocks : new.tested ≤ tested_at_most old.tables old.state steps old.tested

-- a run found no memory for the step behind the first `done`: the world that these led to wanted some for it, and is as it was then,
-- but for the memory of the step's block
pub record FoundNoMemory (old : View) (steps : List Step) (done : ℕ) (new : View) : Type 0 where
  pub world : View
  pub step : Step
  pub there : slice_get steps done ≡ Some step
  pub keeps : KeepsOthers old (take done steps) world
  pub wants : ¬ NeedsNoMemory world step
  pub as_before : IsAsBefore world step new

-- a world has made these steps, and what led to it and the steps lead to where it came to, which is safe and isn't stuck
pub record RunsSafely (old : View) (steps : List Step) (before : List Outcome) (new : View) (after : List Outcome) : Type 0 where
  pub run : IsRun old steps before new after
  pub keeps : KeepsOthers old steps new
  pub history : LeadsOn old steps new
  pub safe : HasBeenSafe new
  pub unstuck : IsUnstuck new

-- a world has made so many of these steps, and not all, and what led to it and they lead to where it came to, which is safe and isn't stuck
pub record StopsSafely (old : View) (steps : List Step) (count : ℕ) (before : List Outcome) (new : View) (after : List Outcome) : Type 0 where
  pub run : IsRun old (take count steps) before new after
  pub done : count < length steps
  pub keeps : KeepsOthers old steps new
  pub history : LeadsOn old (take count steps) new
  pub safe : HasBeenSafe new
  pub unstuck : IsUnstuck new
