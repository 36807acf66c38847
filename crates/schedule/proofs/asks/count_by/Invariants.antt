use Rattle.std.proofs.Common.{◌≡◌, ◌+◌, drop, length}
use Rattle.schedule.specs.Marks.{offers_by}
use Rattle.schedule.proofs.asks.count_by.Given as goal

abbrev pub invariant-loop-number : goal.invariant-loop-number
invariant-loop-number l =
    l.count + length (offers_by l.cores l.number (drop l.number l.asks) (drop l.number l.unheld)) ≡ length (offers_by l.cores 0 l.asks l.unheld)
