-- How the cells of changed tables stand to the protocol's own.
use Rattle.std.specs.Prelude.{◌≡◌, ◌≢◌}
use Rattle.base.specs.declared.controller.entry.CellEntry.{CellEntry}
use Rattle.base.specs.declared.controller.entry.CellEntry.TheVariants as table_entry
use Rattle.cache_table.specs.Table as cache_table
use Rattle.directory_table.specs.Table as directory_table
use Rattle.tables.specs.Tables.{Tables, baseline_of}
use Rattle.tables.specs.declared.cell_places.CellPlace.{CellPlace}
use Rattle.tables.specs.declared.cell_places.CellPlace.TheVariants.{Cache, Directory}
use Rattle.machine.specs.Restraint.{Admits}
use Rattle.certify.specs.declared.standings.Standing.{Standing}
use Rattle.certify.specs.declared.standings.Standing.TheVariants.{Own, Stall, NeverMet, Open}

-- the first reason for which a cell may hold its entry in place of the own one; an open one may not
abbrev pub IsReason : {S A : Type 0} → CellEntry S A → CellEntry S A → Standing → Type 0
IsReason own entry Own = entry ≡ own
IsReason own entry Stall = (entry ≢ own) × (entry ≡ table_entry.Stall)
IsReason own entry NeverMet = (entry ≢ own) × (entry ≢ table_entry.Stall) × (own ≡ table_entry.Blank)
IsReason own entry Open = ¬ Admits own entry

-- how a cell of these tables stands to the own one
abbrev pub HasStanding : Tables → CellPlace → Standing → Type 0
HasStanding tables (Cache state event) s =
    IsReason (cache_table.cell (baseline_of tables.protocol).cache state event) (cache_table.cell tables.cache state event) s
HasStanding tables (Directory state event) s =
    IsReason (directory_table.cell (baseline_of tables.protocol).directory state event) (directory_table.cell tables.directory state event) s

-- a cell holds what it may hold
abbrev pub IsAdmitted : Tables → CellPlace → Type 0
IsAdmitted tables (Cache state event) =
    Admits (cache_table.cell (baseline_of tables.protocol).cache state event) (cache_table.cell tables.cache state event)
IsAdmitted tables (Directory state event) =
    Admits (directory_table.cell (baseline_of tables.protocol).directory state event) (directory_table.cell tables.directory state event)
