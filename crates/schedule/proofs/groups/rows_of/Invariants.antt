use Rattle.std.proofs.Common.{◌≡◌, length}
use Rattle.schedule.specs.inner.Groups.{AreIn}
use Rattle.schedule.proofs.groups.rows_of.Given as goal

abbrev pub invariant-loop-ask : goal.invariant-loop-ask
invariant-loop-ask l = (length l.rows ≡ 16) × AreIn l.rows l.asks l.ask-index
