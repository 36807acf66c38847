use Rattle.std.specs.Prelude.{ℕ, List, [], ◌∷◌, Option}
use Rattle.std.specs.Prelude.{Bool, true, option_and_then, slice_get, count_by, ◌&&◌}
use Rattle.std.specs.Option.{option_map, option_map_or}
use Rattle.base.specs.Steps.{block_of}
use Rattle.base.specs.declared.ids.CacheId.{CacheId}
use Rattle.base.specs.declared.ids.Place.{Place}
use Rattle.base.specs.declared.step.Step.{Step}
use Rattle.network.specs.declared.message.Forward.{Forward}
use Rattle.network.specs.declared.message.Message.{Message}
use Rattle.network.specs.Traffic.{is_quiet, link}
use Rattle.control.specs.LineEffect.{is_reader}
use Rattle.tables.specs.Tables.{Tables}
use Rattle.machine.specs.Block.{BlockState}
use Rattle.machine.specs.Machine.{State, next}
use Rattle.blocks.specs.Looks.{is_held, message_in, place_in, writer_in}

-- the value of the last store to a block, if the block is there
abbrev pub latest_at : State → ℕ → Option ℕ
latest_at s block = option_map (λ b. b.latest) (slice_get s.blocks block)

-- whether a step would be held
abbrev pub held_at : Tables → State → Step → Bool
held_at tables s step = is_held (next tables s step).outcome

-- the controller that a step goes to, if block, cache and message are there
abbrev pub place_at : State → Step → Option Place
place_at s step = option_and_then (place_in step) (slice_get s.blocks (block_of step))

-- the message that a delivery serves, if block and message are there
abbrev pub message_at : State → Step → Option Message
message_at s step = option_and_then (λ b. message_in step b.traffic) (slice_get s.blocks (block_of step))

-- the message at a place of the link from a block's home to a cache, if there is one
abbrev pub forward_at : State → ℕ → ℕ → ℕ → Option Forward
forward_at s block cache index = option_and_then (λ b. slice_get (link b.traffic cache) index) (slice_get s.blocks block)

-- how many caches may read a block; of one that isn't there, none
abbrev pub readers_of : State → ℕ → ℕ
readers_of s block = option_map_or (λ b. count_by (λ line. is_reader line.state) b.lines) (slice_get s.blocks block) 0

-- the least cache that may write a block, if the block is there
abbrev pub writer_of : State → ℕ → Option CacheId
writer_of s block = option_and_then (λ b. writer_in b.lines) (slice_get s.blocks block)

-- nothing is on the wires of any block
abbrev pub all_quiet : List BlockState → Bool
all_quiet [] = true
all_quiet (b ∷ bs) = is_quiet b.traffic && all_quiet bs
