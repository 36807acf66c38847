-- How many messages are on their way, and how many steps have tested.
use Rattle.std.specs.Prelude.{ℕ, ◌+◌, ◌-◌, ◌^◌, min, slice_get}
use Rattle.std.specs.Option.{option_map_or}
use Rattle.machine.specs.Machine.{State}
use Rattle.network.specs.Traffic.{message_count}

-- how many of a block are, if the block is there
abbrev pub messages_at : State → ℕ → ℕ
messages_at s block = option_map_or (λ b. message_count b.traffic) (slice_get s.blocks block) 0

-- a count after so many more, which stays at the largest number of 64 bits
abbrev pub raised : ℕ → ℕ → ℕ
raised count more = min (count + more) (2 ^ 64 - 1)
