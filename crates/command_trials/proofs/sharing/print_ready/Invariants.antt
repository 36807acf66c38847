use Rattle.std.proofs.Common.{◌≡◌}
use Rattle.command_trials.proofs.sharing.print_ready.Given as goal

abbrev pub invariant-loop-number : goal.invariant-loop-number
invariant-loop-number g l = l.seat.desk ≡ l.desk.id
