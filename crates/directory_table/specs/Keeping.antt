-- What the cells of a table of a protocol may name.
use Rattle.std.specs.Prelude.{◌≡◌, ◌⊎◌, true}
use Rattle.base.specs.declared.controller.protocol.Protocol.{Protocol}
use Rattle.directory_table.specs.declared.state.DirectoryState.{DirectoryState}
use Rattle.directory_table.specs.declared.event.DirectoryEvent.{DirectoryEvent}
use Rattle.directory_table.specs.Table.{Cells, cell, has_entry, IsWhole}
use Rattle.directory_table.specs.Baseline.{baseline_entry}

-- the cell holds the protocol's own entry, or the protocol has all that it names
abbrev pub IsKeptAt : Protocol → Cells → DirectoryState → DirectoryEvent → Type 0
IsKeptAt protocol cells state event = (cell cells state event ≡ baseline_entry protocol state event) ⊎ (has_entry protocol (cell cells state event) ≡ true)

-- there is a cell for each state and each event, and each keeps to the protocol
pub record IsDirectoryTable (protocol : Protocol) (cells : Cells) : Type 0 where
  pub whole : IsWhole cells
  pub keeps : (state : DirectoryState) (event : DirectoryEvent) → IsKeptAt protocol cells state event
