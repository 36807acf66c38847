-- The violations of steps that are made one after the other from an opened world.
use Rattle.std.specs.Prelude.{◌≡◌, ◌<◌, ℕ, List, Option, Some, None, slice_get, take}
use Rattle.base.specs.Extent.{Extent}
use Rattle.base.specs.declared.step.Step.{Step}
use Rattle.tables.specs.Tables.{Tables}
use Rattle.monitor.specs.declared.violation.Violation.{Violation}
use Rattle.monitor.specs.Scenes.{HasNone, IsViolation}
use Rattle.monitor.specs.Watching.{scene_after}

-- no step of these, made one after the other from an opened world, shows a violation
abbrev pub HasNoViolation : Extent → Tables → List ℕ → List Step → Type 0
HasNoViolation shape tables opening steps =
    (number : ℕ) (step : Step) → slice_get steps number ≡ Some step → HasNone (scene_after shape tables opening (take number steps) step)

-- the step of this number shows this violation
pub record IsViolationOf (shape : Extent) (tables : Tables) (opening : List ℕ) (steps : List Step) (number : ℕ) (violation : Violation) : Type 0 where
  pub step : Step
  pub there : slice_get steps number ≡ Some step
  pub shown : IsViolation (scene_after shape tables opening (take number steps) step) violation

-- the step of this number is the first that shows a violation, and shows this one
pub record IsFirstViolation (shape : Extent) (tables : Tables) (opening : List ℕ) (steps : List Step) (number : ℕ) (violation : Violation) : Type 0 where
  pub shown : IsViolationOf shape tables opening steps number violation
  pub first : (earlier : ℕ) (step : Step) → earlier < number → slice_get steps earlier ≡ Some step →
      HasNone (scene_after shape tables opening (take earlier steps) step)

-- an answer is exactly the first violation of these steps with the number of its step, or that there is none
abbrev pub AnswersFirst : Extent → Tables → List ℕ → List Step → Option (ℕ × Violation) → Type 0
AnswersFirst shape tables opening steps None = HasNoViolation shape tables opening steps
AnswersFirst shape tables opening steps (Some found) = IsFirstViolation shape tables opening steps found.0 found.1
