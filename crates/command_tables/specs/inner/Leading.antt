-- Worlds that were opened, and went on.
use Rattle.std.specs.Prelude.{◌≡◌, ℕ, List, [], ◌∷◌}
use Rattle.base.specs.declared.step.Step.{Step}
use Rattle.tables.specs.Tables.{Tables}
use Rattle.machine.specs.Machine.{IsHistory}
use Rattle.world.specs.View.{View, LeadsOn}
use Rattle.command_tables.specs.Jams.{Tells, three_caches}

-- a world of three caches that share a block has just been opened under these tables
pub record IsFresh (tables : Tables) (world : View) : Type 0 where
  pub shape : world.shape ≡ three_caches
  pub under : world.tables ≡ tables
  pub history : IsHistory world.shape world.tables (0 ∷ []) [] world.state

-- a world has made the steps that a text tells of before its rest
pub record HasGoneOn (old : View) (text rest : List ℕ) (new : View) : Type 0 where
  pub steps : List Step
  pub told : Tells text rest steps
  pub leads : LeadsOn old steps new
  pub under : new.tables ≡ old.tables
  pub shape : new.shape ≡ old.shape
