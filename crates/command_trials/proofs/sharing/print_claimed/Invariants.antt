use Rattle.std.proofs.Common.{◌≡◌}
use Rattle.trials.specs.Series.{planned}
use Rattle.command_trials.proofs.sharing.print_claimed.Given as goal

abbrev pub invariant-loop : goal.invariant-loop
invariant-loop g l = (l.seat.desk ≡ l.desk.id) × (planned l.series ≡ planned l.initial.series)
