use Rattle.base.specs.declared.controller.protocol.Protocol.{Protocol}
use Rattle.base.specs.declared.controller.protocol.Protocol.TheVariants.{Msi}
use Rattle.cache_table.specs.Table as cache_table
use Rattle.cache_table.specs.Baseline as cache_baseline
use Rattle.directory_table.specs.Table as directory_table
use Rattle.directory_table.specs.Baseline as directory_baseline

-- the cells of both controllers, and the protocol whose states, events and actions they have
pub record Tables : Type 0 where
  pub protocol : Protocol
  pub cache : cache_table.Cells
  pub directory : directory_table.Cells

-- a protocol's own tables
abbrev pub baseline_of : Protocol → Tables
baseline_of protocol = record {
  protocol = protocol;
  cache = cache_baseline.baseline_cells protocol;
  directory = directory_baseline.baseline_cells protocol;
}

-- those of MSI
abbrev pub baseline : Tables
baseline = baseline_of Msi
