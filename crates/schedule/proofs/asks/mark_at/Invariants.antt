use Rattle.std.proofs.Common.{◌≡◌, ◌++◌, drop, length, take}
use Rattle.schedule.specs.Marks.{marks_by}
use Rattle.schedule.proofs.asks.mark_at.Given as goal

abbrev pub invariant-loop-number : goal.invariant-loop-number
invariant-loop-number l =
    (length l.unheld ≡ length l.asks)
    × (take l.number l.unheld ++ marks_by l.held l.core l.block (drop l.number l.asks) (drop l.number l.unheld)
    ≡ marks_by l.held l.core l.block l.asks l.initial.unheld)
