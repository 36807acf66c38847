use Rattle.std.proofs.Common.{◌≡◌, ◌+◌, ℕ, drop, slice_get}
use Rattle.schedule.specs.Marks.{offers_by}
use Rattle.schedule.proofs.asks.find_by.Given as goal

abbrev pub invariant-loop-number : goal.invariant-loop-number
invariant-loop-number l =
    (first : ℕ) → slice_get (offers_by l.cores (first + l.number) (drop l.number l.asks) (drop l.number l.unheld)) l.left
    ≡ slice_get (offers_by l.cores first l.asks l.unheld) l.k
