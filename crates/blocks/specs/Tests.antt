-- What a test of a block's messages finds.
use Rattle.std.specs.Prelude.{◌≡◌}
use Rattle.machine.specs.Block.{BlockState}
use Rattle.tables.specs.Tables.{Tables}
use Rattle.blocks.specs.Marking.{free_requests, free_heads, free_responses}
use Rattle.network.specs.Traffic.{message_count}
use Rattle.blocks.specs.declared.block.testing.Tested.{Tested}

-- it found what there is
pub record IsFound (tables : Tables) (b : BlockState) (t : Tested) : Type 0 where
  pub requests : t.requests ≡ free_requests tables b
  pub heads : t.heads ≡ free_heads tables b
  pub responses : t.responses ≡ free_responses tables b
  pub messages : t.messages ≡ message_count b.traffic
