-- Runs that get stuck, and the texts that tell of them.
use Rattle.std.specs.Prelude.{◌≡◌, ℕ, List, [], ◌∷◌, ◌++◌}
use Rattle.base.specs.Extent.{Extent}
use Rattle.base.specs.Spelling.{IsStepLine}
use Rattle.base.specs.declared.step.Step.{Step}
use Rattle.tables.specs.Tables.{Tables}
use Rattle.machine.specs.Machine.{opened, after}
use Rattle.machine.specs.Unstuck.{Flowing}

-- three caches that share a block
abbrev pub three_caches : Extent
three_caches = record { caches = 3; blocks = 1 }

-- a text has a line for each of these steps before its rest
abbrev pub Tells : List ℕ → List ℕ → List Step → Type 0
Tells text rest [] = text ≡ rest
Tells text rest (step ∷ steps) =
    (line : List ℕ) × (behind : List ℕ) × (text ≡ line ++ 10 ∷ behind) × IsStepLine line step × Tells behind rest steps

-- a text tells of a run under these tables, of three caches that share a block which opens with 0, after which a message is stuck
pub record GetsStuck (tables : Tables) (text : List ℕ) : Type 0 where
  pub steps : List Step
  pub told : Tells text [] steps
  pub stuck : ¬ Flowing tables (after tables (opened three_caches (0 ∷ [])) steps).state
