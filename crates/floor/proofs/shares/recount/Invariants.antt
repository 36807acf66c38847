use Rattle.floor.proofs.Tallying.{IsCountedAgain}
use Rattle.floor.proofs.shares.recount.Given as goal

abbrev pub invariant-loop-seat : goal.invariant-loop-seat
invariant-loop-seat l = IsCountedAgain l.seats l.world l.block l.initial.shares.items l.shares.items l.seat
