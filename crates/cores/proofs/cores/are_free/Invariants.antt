use Rattle.std.proofs.Common.{◌≡◌, ◌≤◌, ◌-◌, length}
use Rattle.cores.proofs.Touched.{AreFreeBelow}
use Rattle.cores.proofs.cores.are_free.Given as goal

abbrev pub invariant-loop-from : goal.invariant-loop-from
invariant-loop-from l = (l.count ≡ length l.touched) × (l.from ≤ l.count) × AreFreeBelow l.from l.cores

abbrev pub decreases-loop-from : goal.decreases-loop-from
decreases-loop-from l = l.count - l.from
