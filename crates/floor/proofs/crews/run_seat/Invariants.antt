use Rattle.floor.specs.Crews.{GoesOn}
use Rattle.floor.proofs.crews.run_seat.Given as goal

abbrev pub invariant-loop : goal.invariant-loop
invariant-loop g l = GoesOn l.fn.seat l.seat
