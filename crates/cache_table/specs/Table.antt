-- The numbers of rows and columns, and the cells of a cache's table.
use Rattle.std.specs.Prelude.{ℕ, List, [], ◌∷◌, Bool, true, false, ◌&&◌, if◌then◌else◌}
use Rattle.base.specs.declared.controller.protocol.Protocol.{Protocol}
use Rattle.base.specs.declared.controller.protocol.Protocol.TheVariants.{Msi}
use Rattle.base.specs.declared.controller.entry.CellEntry.{CellEntry}
use Rattle.base.specs.declared.controller.entry.CellEntry.TheVariants.{Act}
use Rattle.base.specs.declared.controller.entry.Change.{Change}
use Rattle.base.specs.Cells as cells
use Rattle.cache_table.specs.declared.state.CacheState.{CacheState}
use Rattle.cache_table.specs.declared.event.CacheEvent.{CacheEvent}
use Rattle.cache_table.specs.declared.actions.CacheAction.{CacheAction}
use Rattle.cache_table.specs.declared.state.CacheState.TheVariants.{I, IsD, ImAd, ImA, S, SmAd, SmA, M, MiA, SiA, IiA, E}
use Rattle.cache_table.specs.declared.event.CacheEvent.TheVariants.{Load, Store, Replacement, FwdGetS, FwdGetM, Inv, PutAck, DataDirZero, DataDirMore}
use Rattle.cache_table.specs.declared.event.CacheEvent.TheVariants.{DataOwner, InvAck, LastInvAck, DataDirExcl}

-- the number of a state's row, counted from 0
abbrev pub state_number : CacheState → ℕ
state_number I = 0
state_number IsD = 1
state_number ImAd = 2
state_number ImA = 3
state_number S = 4
state_number SmAd = 5
state_number SmA = 6
state_number M = 7
state_number MiA = 8
state_number SiA = 9
state_number IiA = 10
state_number E = 11

-- the number of an event's column, counted from 0
abbrev pub event_number : CacheEvent → ℕ
event_number Load = 0
event_number Store = 1
event_number Replacement = 2
event_number FwdGetS = 3
event_number FwdGetM = 4
event_number Inv = 5
event_number PutAck = 6
event_number DataDirZero = 7
event_number DataDirMore = 8
event_number DataOwner = 9
event_number InvAck = 10
event_number LastInvAck = 11
event_number DataDirExcl = 12

-- what a cell of a cache's table holds
abbrev pub CacheEntry : Type 0
CacheEntry = CellEntry CacheState CacheAction

-- an entry that one cell is to have
abbrev pub CacheChange : Type 0
CacheChange = Change CacheState CacheEvent CacheAction

-- the cells of a table: a row for each state, with a cell for each event
abbrev pub Cells : Type 0
Cells = List (List CacheEntry)

-- the entry in the cell of a state and an event
abbrev pub cell : Cells → CacheState → CacheEvent → CacheEntry
cell table state event = cells.cell_of state_number event_number table state event

-- these cells with another entry in the cell of a state and an event
abbrev pub with_cell : Cells → CacheState → CacheEvent → CacheEntry → Cells
with_cell table state event entry = cells.replaced state_number event_number table state event entry

-- there is a cell for each state and each event
abbrev pub IsWhole : Cells → Type 0
IsWhole table = cells.HasSize 12 13 table

-- whether a protocol has a state
abbrev pub has_state : Protocol → CacheState → Bool
has_state Msi E = false
has_state protocol other = true

-- whether it has an event
abbrev pub has_event : Protocol → CacheEvent → Bool
has_event Msi DataDirExcl = false
has_event protocol other = true

-- whether it has an action, as each has all of a cache
abbrev pub has_action : Protocol → CacheAction → Bool
has_action protocol action = true

-- whether it has what an entry names
abbrev pub has_entry : Protocol → CacheEntry → Bool
has_entry protocol (Act next actions) = has_state protocol next
has_entry protocol other = true

-- whether it has all that a cell and its entry name
abbrev pub has_cell : Protocol → CacheState → CacheEvent → CacheEntry → Bool
has_cell protocol state event entry = has_state protocol state && has_event protocol event && has_entry protocol entry

-- a table as contracts see it: its protocol, and its cells
pub record CacheTableView : Type 0 where
  pub protocol : Protocol
  pub cells : Cells

-- this table with another entry in a cell; where its protocol hasn't got what is named, it stays as it is
abbrev pub with_entry : CacheTableView → CacheState → CacheEvent → CacheEntry → CacheTableView
with_entry table state event entry =
    if has_cell table.protocol state event entry then record table { cells = with_cell table.cells state event entry } else table

-- this table after these changes, made in order
abbrev pub laid_over : List CacheChange → CacheTableView → CacheTableView
laid_over [] table = table
laid_over (c ∷ changes) table = laid_over changes (with_entry table c.state c.event c.entry)
