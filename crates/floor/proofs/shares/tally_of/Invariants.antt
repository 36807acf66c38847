use Rattle.std.proofs.Common.{◌≡◌, ◌<◌, ◌+◌, ℕ, count_by, length, slice_index, take}
use Rattle.world.specs.Enabled.{enabled_at_block}
use Rattle.floor.specs.Belonging.{belongs}
use Rattle.floor.proofs.shares.tally_of.Given as goal

abbrev pub invariant-loop-k : goal.invariant-loop-k
invariant-loop-k l = record {
  long : length l.tally.each ≡ 64;
  each : (seat : ℕ) → seat < l.seats → slice_index l.tally.each seat + l.tally.all ≡
      count_by (λ step. belongs l.seats l.world.shape.caches l.world.state seat step)
      (take l.k (enabled_at_block l.world.tables l.kind l.world.state l.block));
}
