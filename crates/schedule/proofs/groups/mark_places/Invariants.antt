use Rattle.std.proofs.Common.{◌≡◌, length}
use Rattle.schedule.proofs.Grouping.{AreAnew}
use Rattle.schedule.proofs.groups.mark_places.Given as goal

abbrev pub invariant-loop-rest : goal.invariant-loop-rest
invariant-loop-rest l = (length l.unheld ≡ length l.asks) × AreAnew l.held l.core l.block l.asks l.initial.unheld l.unheld l.rest

abbrev pub decreases-loop-rest : goal.decreases-loop-rest
decreases-loop-rest l = l.rest
