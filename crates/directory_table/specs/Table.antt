-- The numbers of rows and columns, and the cells of the directory's table.
use Rattle.std.specs.Prelude.{ℕ, List, [], ◌∷◌, Bool, true, false, ◌&&◌, if◌then◌else◌}
use Rattle.base.specs.declared.controller.protocol.Protocol.{Protocol}
use Rattle.base.specs.declared.controller.protocol.Protocol.TheVariants.{Msi}
use Rattle.base.specs.declared.controller.entry.CellEntry.{CellEntry}
use Rattle.base.specs.declared.controller.entry.CellEntry.TheVariants.{Act}
use Rattle.base.specs.declared.controller.entry.Change.{Change}
use Rattle.base.specs.Cells as cells
use Rattle.directory_table.specs.declared.state.DirectoryState.{DirectoryState}
use Rattle.directory_table.specs.declared.event.DirectoryEvent.{DirectoryEvent}
use Rattle.directory_table.specs.declared.actions.DirectoryAction.{DirectoryAction}
use Rattle.directory_table.specs.declared.actions.DirectoryAction.TheVariants.{DataExcl}
use Rattle.directory_table.specs.declared.state.DirectoryState.TheVariants.{I, S, M, SD}
use Rattle.directory_table.specs.declared.event.DirectoryEvent.TheVariants.{GetS, GetM, PutSNotLast, PutSLast, PutMOwner, PutMNonOwner, Data}

-- the number of a state's row, counted from 0
abbrev pub state_number : DirectoryState → ℕ
state_number I = 0
state_number S = 1
state_number M = 2
state_number SD = 3

-- the number of an event's column, counted from 0
abbrev pub event_number : DirectoryEvent → ℕ
event_number GetS = 0
event_number GetM = 1
event_number PutSNotLast = 2
event_number PutSLast = 3
event_number PutMOwner = 4
event_number PutMNonOwner = 5
event_number Data = 6

-- what a cell of the directory's table holds
abbrev pub DirectoryEntry : Type 0
DirectoryEntry = CellEntry DirectoryState DirectoryAction

-- an entry that one cell is to have
abbrev pub DirectoryChange : Type 0
DirectoryChange = Change DirectoryState DirectoryEvent DirectoryAction

-- the cells of a table: a row for each state, with a cell for each event
abbrev pub Cells : Type 0
Cells = List (List DirectoryEntry)

-- the entry in the cell of a state and an event
abbrev pub cell : Cells → DirectoryState → DirectoryEvent → DirectoryEntry
cell table state event = cells.cell_of state_number event_number table state event

-- these cells with another entry in the cell of a state and an event
abbrev pub with_cell : Cells → DirectoryState → DirectoryEvent → DirectoryEntry → Cells
with_cell table state event entry = cells.replaced state_number event_number table state event entry

-- there is a cell for each state and each event
abbrev pub IsWhole : Cells → Type 0
IsWhole table = cells.HasSize 4 7 table

-- whether a protocol has a state, as each has all of the directory
abbrev pub has_state : Protocol → DirectoryState → Bool
has_state protocol state = true

-- whether it has an event, as each has all
abbrev pub has_event : Protocol → DirectoryEvent → Bool
has_event protocol event = true

-- whether it has an action
abbrev pub has_action : Protocol → DirectoryAction → Bool
has_action Msi DataExcl = false
has_action protocol other = true

-- whether it has all of these
abbrev pub has_actions : Protocol → List DirectoryAction → Bool
has_actions protocol [] = true
has_actions protocol (a ∷ actions) = has_action protocol a && has_actions protocol actions

-- whether it has what an entry names
abbrev pub has_entry : Protocol → DirectoryEntry → Bool
has_entry protocol (Act next actions) = has_actions protocol actions
has_entry protocol other = true

-- a table as contracts see it: its protocol, and its cells
pub record DirectoryTableView : Type 0 where
  pub protocol : Protocol
  pub cells : Cells

-- this table with another entry in a cell; where its protocol hasn't got what is named, it stays as it is
abbrev pub with_entry : DirectoryTableView → DirectoryState → DirectoryEvent → DirectoryEntry → DirectoryTableView
with_entry table state event entry = if has_entry table.protocol entry then record table { cells = with_cell table.cells state event entry } else table

-- this table after these changes, made in order
abbrev pub laid_over : List DirectoryChange → DirectoryTableView → DirectoryTableView
laid_over [] table = table
laid_over (c ∷ changes) table = laid_over changes (with_entry table c.state c.event c.entry)
