use Rattle.std.proofs.Common.{◌≡◌, drop, slice_get}
use Rattle.network.specs.Marks.{unmarked}
use Rattle.network.specs.inner.Links.{marks_in}
use Rattle.network.proofs.wire.kth_free.Given as goal

abbrev pub invariant-loop-index : goal.invariant-loop-index
invariant-loop-index g l =
    slice_get (unmarked l.index (drop l.index (marks_in l.marked))) l.left ≡ slice_get (unmarked 0 (marks_in l.marked)) l.k
