use Rattle.std.proofs.Common.{◌≡◌, ◌-◌, length}
use Rattle.cores.proofs.Touched.{AreIdleBelow}
use Rattle.cores.proofs.cores.make_idle.Given as goal

abbrev pub invariant-loop-from : goal.invariant-loop-from
invariant-loop-from l = (l.count ≡ length l.touched) × AreIdleBelow l.touched l.from l.cores.items

abbrev pub decreases-loop-from : goal.decreases-loop-from
decreases-loop-from l = l.count - l.from
