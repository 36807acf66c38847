use Rattle.std.proofs.Common.{◌≡◌, ◌+◌, filter, length, take}
use Rattle.world.specs.Enabled.{enabled_at_block}
use Rattle.floor.specs.Belonging.{belongs}
use Rattle.floor.proofs.shares.nth_of.Given as goal

abbrev pub invariant-loop-k : goal.invariant-loop-k
invariant-loop-k l =
    l.left + length (filter (λ step. belongs l.seats l.world.shape.caches l.world.state l.seat step)
    (take l.k (enabled_at_block l.world.tables l.kind l.world.state l.block))) ≡ l.n
