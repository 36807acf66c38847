-- What the cells of a table of a protocol may name.
use Rattle.std.specs.Prelude.{◌≡◌, ◌⊎◌, true}
use Rattle.base.specs.declared.controller.protocol.Protocol.{Protocol}
use Rattle.cache_table.specs.declared.state.CacheState.{CacheState}
use Rattle.cache_table.specs.declared.event.CacheEvent.{CacheEvent}
use Rattle.cache_table.specs.Table.{Cells, cell, has_cell, IsWhole}
use Rattle.cache_table.specs.Baseline.{baseline_entry}

-- the cell holds the protocol's own entry, or the protocol has all that it names
abbrev pub IsKeptAt : Protocol → Cells → CacheState → CacheEvent → Type 0
IsKeptAt protocol cells state event = (cell cells state event ≡ baseline_entry protocol state event) ⊎
    (has_cell protocol state event (cell cells state event) ≡ true)

-- there is a cell for each state and each event, and each keeps to the protocol
pub record IsCacheTable (protocol : Protocol) (cells : Cells) : Type 0 where
  pub whole : IsWhole cells
  pub keeps : (state : CacheState) (event : CacheEvent) → IsKeptAt protocol cells state event
