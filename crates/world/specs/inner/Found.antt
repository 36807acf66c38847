-- A block as a look finds it.
use Rattle.std.specs.Prelude.{ℕ, Option, Some, None, Bool, true, false}
use Rattle.base.specs.declared.step.Step.{Step}
use Rattle.tables.specs.Tables.{Tables}
use Rattle.blocks.specs.Looks.{held_in}
use Rattle.network.specs.Traffic.{is_quiet}
use Rattle.machine.specs.Block.{BlockState, opened_block}
use Rattle.blocks.specs.View as kept
use Rattle.world.specs.declared.looks.FoundBlock.{FoundBlock}
use Rattle.world.specs.declared.looks.FoundBlock.TheVariants.{Kept, Opened}

-- its state: a block that isn't kept is as it opens
abbrev pub state_found : ℕ → FoundBlock → BlockState
state_found caches (Kept block) = block.now.state
state_found caches (Opened value) = opened_block caches value

-- whether nothing is on its wires
abbrev pub is_quiet_kept : Option kept.BlockView → Bool
is_quiet_kept None = true
is_quiet_kept (Some k) = is_quiet k.state.traffic

-- whether a step would be held in its block, if that is there
abbrev pub is_held_found : Tables → Step → Option BlockState → Bool
is_held_found tables step None = false
is_held_found tables step (Some b) = held_in tables step b
