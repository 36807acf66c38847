-- What trials are made under.
use Rattle.std.specs.Prelude.{◌≡◌, ◌≤◌, ℕ, List, length}
use Rattle.base.specs.Extent.{Extent, IsWithinLimits}
use Rattle.base.specs.declared.step.Step.{Step}
use Rattle.tables.specs.Tables.{Tables}
use Rattle.machine.specs.Coherence.{Safe}
use Rattle.machine.specs.Machine.{opened, after}
use Rattle.machine.specs.Unstuck.{Unstuck}
use Rattle.scenario.specs.Tree.{Tree}

-- the shape of the world, its tables and opening values, the seed of the dice, and the most steps of a trial
pub record Terms : Type 0 where
  pub shape : Extent
  pub tables : Tables
  pub opening : List ℕ
  pub seed : ℕ
  pub limit : ℕ

-- trials of a scenario under terms
pub record Plan : Type 0 where
  pub terms : Terms
  pub tree : Tree

-- a shape within the limits, one opening value for each block, and at most a million steps
pub record AreLawful (terms : Terms) : Type 0 where
  pub within : IsWithinLimits terms.shape
  pub each : length terms.opening ≡ terms.shape.blocks
  pub few : terms.limit ≤ 1000000

-- each run of a trial's world is safe
abbrev pub RunsAreSafe : Terms → Type 0
RunsAreSafe terms = (steps : List Step) → Safe terms.shape terms.tables terms.opening steps

-- and none ever gets stuck
abbrev pub RunsAreUnstuck : Terms → Type 0
RunsAreUnstuck terms = (steps : List Step) → Unstuck terms.tables (after terms.tables (opened terms.shape terms.opening) steps).state
