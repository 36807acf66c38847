use Rattle.std.proofs.Common.{◌≡◌, ◌-◌, List, ℕ, length}
use Rattle.trials.specs.Series.{planned}
use Rattle.desk.specs.Working.{Works}
use Rattle.desk.proofs.working.work_off.Given as goal

abbrev pub invariant-loop-number : goal.invariant-loop-number
invariant-loop-number g l = record {
  desk : l.seat.desk ≡ l.desk.id;
  plan : planned l.series ≡ planned l.initial.series;
  works : (mine : List ℕ) × (length mine ≡ l.count) × Works l.initial.seat l.seat mine;
}

abbrev pub decreases-loop-number : goal.decreases-loop-number
decreases-loop-number g l = length l.desk.id.cells - length l.seat.claimed
