use Rattle.std.proofs.Common.{◌≡◌, All, vec_len}
use Rattle.tests_of_desks.proofs.workers.work_in_turn.Given as goal

abbrev pub invariant-loop-seat : goal.invariant-loop-seat
invariant-loop-seat g l = record {
  seats : All (λ seat. seat.desk ≡ l.desk.id) l.seats.items;
  back : All (λ seat. seat.desk ≡ l.desk.id) l.back.items;
}

abbrev pub decreases-loop-seat : goal.decreases-loop-seat
decreases-loop-seat g l = vec_len l.seats
