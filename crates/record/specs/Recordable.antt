-- What the types promise of a recording.
use Rattle.std.specs.Prelude.{◌≤◌, All, length}
use Rattle.base.specs.Extent.{IsWithinLimits}
use Rattle.cache_table.specs.Keeping as cache_table
use Rattle.directory_table.specs.Keeping as directory_table
use Rattle.tables.specs.Tables.{Tables}
use Rattle.tables.specs.declared.cell_places.CellPlace.{CellPlace}
use Rattle.record_lines.specs.Cells.{cell_at, FitsCell}
use Rattle.record.specs.View.{AreOwners, RecordingView}
use Rattle.record_lines.specs.Grammar.{AreValues, FitsEntry}

-- both tables have all their cells, each of at most eight actions, and keep to their protocol
pub record AreWhole (tables : Tables) : Type 0 where
  pub cache : cache_table.IsCacheTable tables.protocol tables.cache
  pub directory : directory_table.IsDirectoryTable tables.protocol tables.directory
  pub fits : (place : CellPlace) → FitsCell (cell_at tables place)

-- its shape is within the limits, its tables are whole, it has at most a million entries, each with its owner, and its numbers are in range of their types
pub record IsRecordable (r : RecordingView) : Type 0 where
  pub shape : IsWithinLimits r.shape
  pub tables : AreWhole r.tables
  pub opening : AreValues r.shape r.opening
  pub few : length r.entries ≤ 1000000
  pub owners : AreOwners r.seats r.owners r.entries
  pub fits : All FitsEntry r.entries
