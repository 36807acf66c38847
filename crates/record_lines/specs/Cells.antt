-- The cells of both tables, how they are spelled, and when two hold the same.
use Rattle.std.specs.Prelude.{ℕ, Bool, false, List}
use Rattle.base.specs.Entries.{change_words, same_entry, HasFewActions}
use Rattle.base.specs.declared.controller.entry.Side.TheVariants.{Cache, Directory}
use Rattle.base.specs.declared.controller.protocol.Protocol.{Protocol}
use Rattle.base.specs.declared.controller.protocol.Protocol.TheVariants.{Msi, MsiE}
use Rattle.cache_table.specs.Table as cache_table
use Rattle.cache_table.specs.Names as cache_names
use Rattle.cache_table.specs.Keeping as cache_keeping
use Rattle.directory_table.specs.Table as directory_table
use Rattle.directory_table.specs.Names as directory_names
use Rattle.directory_table.specs.Keeping as directory_keeping
use Rattle.tables.specs.Tables.{Tables}
use Rattle.tables.specs.declared.cell_places.CellPlace.{CellPlace}
use Rattle.tables.specs.declared.cell_places.CellPlace.TheVariants as place
use Rattle.record_lines.specs.declared.cells.Cell.{Cell}
use Rattle.record_lines.specs.declared.cells.Cell.TheVariants as cell

-- how many cells the tables of a protocol have at most
abbrev pub most_cells : Protocol → ℕ
most_cells Msi = 160
most_cells MsiE = 184

-- the cell at a place of these tables
abbrev pub cell_at : Tables → CellPlace → Cell
cell_at tables (place.Cache state event) = cell.Cache state event (cache_table.cell tables.cache state event)
cell_at tables (place.Directory state event) = cell.Directory state event (directory_table.cell tables.directory state event)

-- the place of a cell
abbrev pub place_of : Cell → CellPlace
place_of (cell.Cache state event entry) = place.Cache state event
place_of (cell.Directory state event entry) = place.Directory state event

-- the words that spell a cell
abbrev pub cell_words : Cell → List (List ℕ)
cell_words (cell.Cache state event entry) =
    change_words cache_names.state_name cache_names.event_name cache_names.action_name Cache (record { state = state; event = event; entry = entry })
cell_words (cell.Directory state event entry) =
    change_words directory_names.state_name directory_names.event_name directory_names.action_name Directory
    (record { state = state; event = event; entry = entry })

-- a cell has at most eight actions
abbrev pub FitsCell : Cell → Type 0
FitsCell (cell.Cache state event entry) = HasFewActions entry
FitsCell (cell.Directory state event entry) = HasFewActions entry

-- whether two cells of one place hold the same
abbrev pub is_same : Cell → Cell → Bool
is_same (cell.Cache state event entry) (cell.Cache s e other) = same_entry cache_table.state_number cache_names.action_number entry other
is_same (cell.Directory state event entry) (cell.Directory s e other) =
    same_entry directory_table.state_number directory_names.action_number entry other
is_same one other = false

-- whether a protocol has all that a cell and its entry name
abbrev pub is_known : Protocol → Cell → Bool
is_known protocol (cell.Cache state event entry) = cache_table.has_cell protocol state event entry
is_known protocol (cell.Directory state event entry) = directory_table.has_entry protocol entry

-- the table of a place has all its cells, and keeps to its protocol
abbrev pub IsInWhole : Tables → CellPlace → Type 0
IsInWhole tables (place.Cache state event) = cache_keeping.IsCacheTable tables.protocol tables.cache
IsInWhole tables (place.Directory state event) = directory_keeping.IsDirectoryTable tables.protocol tables.directory
