-- What is answered of changed tables.
use Rattle.std.specs.Prelude.{◌≡◌, ◌⊎◌, ◌<◌, ℕ, List, length, Some, slice_get}
use Rattle.base.specs.Extent.{Extent, IsWithinLimits}
use Rattle.base.specs.declared.controller.entry.CellEntry.TheVariants.{Blank, Stall}
use Rattle.base.specs.declared.step.Step.{Step}
use Rattle.cache_table.specs.Table as cache_table
use Rattle.directory_table.specs.Table as directory_table
use Rattle.tables.specs.CellPlaces.{all_places}
use Rattle.tables.specs.Tables.{Tables, baseline_of}
use Rattle.tables.specs.declared.cell_places.CellPlace.{CellPlace}
use Rattle.tables.specs.declared.cell_places.CellPlace.TheVariants.{Cache, Directory}
use Rattle.machine.specs.Coherence.{Met, Safe}
use Rattle.machine.specs.Going.{AreNeverStuck, KeepsGoing, MayWait, MayWaitAtHome, IsSettled}
use Rattle.machine.specs.Machine.{after, opened}
use Rattle.machine.specs.Restraint.{AreRestrained}
use Rattle.machine.specs.Unstuck.{Flowing, Unstuck}
use Rattle.pairs.specs.declared.pair.Pair.{Pair}
use Rattle.closing.specs.Blamed.{HasFlow}
use Rattle.closing.specs.Closed.{Closed}
use Rattle.closing.specs.declared.deciding.Flow.TheVariants as by_pairs
use Rattle.certify.specs.Standings.{IsAdmitted}
use Rattle.certify.specs.declared.certifying.Certificate.{Certificate}
use Rattle.certify.specs.declared.certifying.Certificate.TheVariants.{NotProved, ClosedPairs, NeverStuck, AsksMayBeHeld, MessagesMayGetStuck}

-- a stall in this cell lets messages flow
abbrev pub LetsFlow : Tables → CellPlace → Type 0
LetsFlow tables (Cache state event) = cache_table.cell tables.cache state event ≡ Stall →
    (cache_table.cell (baseline_of tables.protocol).cache state event ≡ Stall) ⊎
    (cache_table.cell (baseline_of tables.protocol).cache state event ≡ Blank) ⊎ MayWait tables state event
LetsFlow tables (Directory state event) = directory_table.cell tables.directory state event ≡ Stall →
    (directory_table.cell (baseline_of tables.protocol).directory state event ≡ Stall) ⊎
    (directory_table.cell (baseline_of tables.protocol).directory state event ≡ Blank) ⊎ MayWaitAtHome state event

-- at a line that waits for nothing this cell holds none that comes
abbrev pub ServesAt : Tables → CellPlace → Type 0
ServesAt tables (Cache state event) = IsSettled state → cache_table.cell tables.cache state event ≡ Stall →
    cache_table.cell (baseline_of tables.protocol).cache state event ≡ Blank
ServesAt tables (Directory state event) = Unit {0}

-- the first cell, in the order of all, that isn't so
pub record IsFirstAgainst (holds : CellPlace → Type 0) (cell : CellPlace) : Type 0 where
  pub number : ℕ
  pub there : slice_get all_places number ≡ Some cell
  pub barred : ¬ holds cell
  pub before : (k : ℕ) (other : CellPlace) → k < number → slice_get all_places k ≡ Some other → holds other

-- so many pairs of caches are closed
pub record HasClosed (tables : Tables) (count : ℕ) : Type 0 where
  pub pairs : List Pair
  pub closed : Closed tables pairs
  pub counted : count ≡ length pairs

-- when each answer is given
abbrev pub IsCertificate : Tables → Certificate → Type 0
IsCertificate tables (NotProved cell refusal) = IsFirstAgainst (IsAdmitted tables) cell
IsCertificate tables (ClosedPairs cell count flow) = IsFirstAgainst (IsAdmitted tables) cell × HasClosed tables count × HasFlow tables flow
IsCertificate tables NeverStuck = AreNeverStuck tables
IsCertificate tables (AsksMayBeHeld cell) = AreRestrained tables × KeepsGoing tables × IsFirstAgainst (ServesAt tables) cell
IsCertificate tables (MessagesMayGetStuck cell) = AreRestrained tables × IsFirstAgainst (LetsFlow tables) cell

-- an answer that says that all runs are safe
abbrev pub SaysSafe : Certificate → Type 0
SaysSafe (NotProved cell refusal) = ⊥
SaysSafe (ClosedPairs cell count flow) = Unit {0}
SaysSafe NeverStuck = Unit {0}
SaysSafe (AsksMayBeHeld cell) = Unit {0}
SaysSafe (MessagesMayGetStuck cell) = Unit {0}

-- an answer that is given of restrained tables alone
abbrev pub SaysRestrained : Certificate → Type 0
SaysRestrained (NotProved cell refusal) = ⊥
SaysRestrained (ClosedPairs cell count flow) = ⊥
SaysRestrained NeverStuck = Unit {0}
SaysRestrained (AsksMayBeHeld cell) = Unit {0}
SaysRestrained (MessagesMayGetStuck cell) = Unit {0}

-- an answer that says that no message is ever stuck either
abbrev pub SaysFlowing : Certificate → Type 0
SaysFlowing (NotProved cell refusal) = ⊥
SaysFlowing (ClosedPairs cell count by_pairs.MessagesMayGetStuck) = ⊥
SaysFlowing (ClosedPairs cell count flow) = Unit {0}
SaysFlowing NeverStuck = Unit {0}
SaysFlowing (AsksMayBeHeld cell) = Unit {0}
SaysFlowing (MessagesMayGetStuck cell) = ⊥

-- an answer that says that nothing is ever stuck
abbrev pub SaysNeverStuck : Certificate → Type 0
SaysNeverStuck NeverStuck = Unit {0}
SaysNeverStuck (ClosedPairs cell count by_pairs.NeverStuck) = Unit {0}
SaysNeverStuck other = ⊥

-- what an answer says holds of each run under the tables: it is safe, comes to no cell where the protocol's own is blank, and leads to no state
-- in which a message is stuck, or anything
pub record HoldsOfRuns (tables : Tables) (certificate : Certificate) : Type 0 where
  pub safe : SaysSafe certificate → (shape : Extent) (opening : List ℕ) (steps : List Step) →
      IsWithinLimits shape → length opening ≡ shape.blocks → Safe shape tables opening steps
  pub never_met : SaysRestrained certificate → (shape : Extent) (opening : List ℕ) (steps : List Step) (step : Step) →
      IsWithinLimits shape → length opening ≡ shape.blocks →
      ¬ Met (baseline_of tables.protocol) (after tables (opened shape opening) steps).state step
  pub flowing : SaysFlowing certificate → (shape : Extent) (opening : List ℕ) (steps : List Step) →
      IsWithinLimits shape → length opening ≡ shape.blocks → Flowing tables (after tables (opened shape opening) steps).state
  pub unstuck : SaysNeverStuck certificate → (shape : Extent) (opening : List ℕ) (steps : List Step) →
      IsWithinLimits shape → length opening ≡ shape.blocks → Unstuck tables (after tables (opened shape opening) steps).state
