-- Tables that do nothing but what the protocol's own do.
use Rattle.std.specs.Prelude.{◌≡◌, ◌⊎◌}
use Rattle.base.specs.declared.controller.entry.CellEntry.{CellEntry}
use Rattle.base.specs.declared.controller.entry.CellEntry.TheVariants.{Blank, Stall}
use Rattle.cache_table.specs.declared.state.CacheState.{CacheState}
use Rattle.cache_table.specs.declared.event.CacheEvent.{CacheEvent}
use Rattle.cache_table.specs.Table as cache_table
use Rattle.directory_table.specs.declared.state.DirectoryState.{DirectoryState}
use Rattle.directory_table.specs.declared.event.DirectoryEvent.{DirectoryEvent}
use Rattle.directory_table.specs.Table as directory_table
use Rattle.tables.specs.Tables.{Tables, baseline_of}

-- what a cell may hold in place of the own entry: that, a stall, or anything where the own one is blank, which no run meets
abbrev pub Admits : {S A : Type 0} → CellEntry S A → CellEntry S A → Type 0
Admits own entry = (entry ≡ own) ⊎ (entry ≡ Stall) ⊎ (own ≡ Blank)

-- each cell holds what it may hold
pub record AreRestrained (tables : Tables) : Type 0 where
  pub cache : (state : CacheState) (event : CacheEvent) →
      Admits (cache_table.cell (baseline_of tables.protocol).cache state event) (cache_table.cell tables.cache state event)
  pub directory : (state : DirectoryState) (event : DirectoryEvent) →
      Admits (directory_table.cell (baseline_of tables.protocol).directory state event) (directory_table.cell tables.directory state event)
