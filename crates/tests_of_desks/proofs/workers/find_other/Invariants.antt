use Rattle.std.proofs.Common.{◌≡◌}
use Rattle.tests_of_desks.proofs.workers.find_other.Given as goal

abbrev pub invariant-loop : goal.invariant-loop
invariant-loop g l = l.seat.desk ≡ l.desk.id
