use Rattle.std.proofs.Common.{◌≡◌, ◌≤◌}
use Rattle.trials.specs.Series.{planned}
use Rattle.trials.specs.Trial.{AreResults}
use Rattle.trials.proofs.batches.append.Given as goal

abbrev pub invariant-loop-number : goal.invariant-loop-number
invariant-loop-number g l =
    (planned l.series ≡ planned l.initial.series)
    × (l.n ≤ l.results.cap)
    × AreResults (planned l.initial.series).terms (planned l.initial.series).tree l.number l.results.items
