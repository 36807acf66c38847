use Rattle.std.proofs.Common.{◌≡◌}
use Rattle.command_trials.proofs.sharing.work_and_print.Given as goal

abbrev pub invariant-loop : goal.invariant-loop
invariant-loop g l = l.seat.desk ≡ l.desk.id
