use Rattle.schedule.proofs.Grouping.{BitsFirst}
use Rattle.schedule.proofs.groups.held_places.Given as goal

abbrev pub invariant-loop-number : goal.invariant-loop-number
invariant-loop-number l = BitsFirst l.held l.places l.asks l.number
