-- Tables, and rows of them, under which nothing is held.
use Rattle.std.specs.Prelude.{◌≡◌, false}
use Rattle.network.specs.declared.message.ForwardKind.{ForwardKind}
use Rattle.network.specs.declared.message.Response.{Response}
use Rattle.cache_table.specs.Table as cache_table
use Rattle.cache_table.specs.declared.state.CacheState.{CacheState}
use Rattle.cache_table.specs.declared.event.CacheEvent.TheVariants as event
use Rattle.directory_table.specs.Table as directory_table
use Rattle.directory_table.specs.declared.state.DirectoryState.{DirectoryState}
use Rattle.directory_table.specs.declared.event.DirectoryEvent.{DirectoryEvent}
use Rattle.control.specs.LineEvents.{forward_event}
use Rattle.tables.specs.Tables.{Tables}
use Rattle.machine.specs.Block.{BlockState}
use Rattle.blocks.specs.Marking.{is_stall, response_stalls}

-- a home in this state stalls on no event
abbrev pub IsClear : directory_table.Cells → DirectoryState → Type 0
IsClear cells state = (event : DirectoryEvent) → is_stall (directory_table.cell cells state event) ≡ false

-- a line in this state stalls on nothing that comes on its link
abbrev pub ForwardsPass : cache_table.Cells → CacheState → Type 0
ForwardsPass cells state = (kind : ForwardKind) → is_stall (cache_table.cell cells state (forward_event kind)) ≡ false

-- a line in this state stalls on no event that is a response
pub record RowPasses (tables : Tables) (state : CacheState) : Type 0 where
  pub data_dir_zero : is_stall (cache_table.cell tables.cache state event.DataDirZero) ≡ false
  pub data_dir_more : is_stall (cache_table.cell tables.cache state event.DataDirMore) ≡ false
  pub data_owner : is_stall (cache_table.cell tables.cache state event.DataOwner) ≡ false
  pub inv_ack : is_stall (cache_table.cell tables.cache state event.InvAck) ≡ false
  pub last_inv_ack : is_stall (cache_table.cell tables.cache state event.LastInvAck) ≡ false
  pub data_dir_excl : is_stall (cache_table.cell tables.cache state event.DataDirExcl) ≡ false

-- whatever the lines and the home of a block are, no response is held there
abbrev pub ResponsesPass : Tables → Type 0
ResponsesPass tables = (b : BlockState) (r : Response) → response_stalls tables b r ≡ false
