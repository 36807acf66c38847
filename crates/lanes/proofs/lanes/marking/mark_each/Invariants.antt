use Rattle.std.proofs.Common.{◌≡◌, ◌<◌, ℕ, length}
use Rattle.lanes.specs.inner.Kept.{listed_in, stocks_in, trees_in}
use Rattle.lanes.proofs.Counting.{IsMarkedSoFar}
use Rattle.lanes.proofs.lanes.marking.mark_each.Given as goal

abbrev pub invariant-loop-number : goal.invariant-loop-number
invariant-loop-number g l =
    (length l.lanes.items ≡ length l.fn.lanes.items)
    × (trees_in l.lanes.items ≡ trees_in l.fn.lanes.items)
    × ((lane : ℕ) → lane < length l.fn.lanes.items →
    IsMarkedSoFar l.held l.core l.block l.which l.number-index l.done (listed_in l.lanes.items) (listed_in l.fn.lanes.items) lane)
    × (stocks_in l.lanes.items ≡ stocks_in l.fn.lanes.items)
