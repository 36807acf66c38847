use Rattle.std.proofs.Common.{◌≡◌, ◌<◌, ℕ, get_or}
use Rattle.floor.specs.Turning.{SeatView}
use Rattle.floor.specs.Histories.{history}
use Rattle.floor.proofs.closing.compare_all.Given as goal

abbrev pub invariant-loop-seat : goal.invariant-loop-seat
invariant-loop-seat g l = record {
  hall : l.hall ≡ l.initial.hall;
  seats : l.seat-items ≡ l.initial.seat-items;
  histories : (k : ℕ) (d : SeatView) → k < l.seat-index →
      (get_or l.initial.seat-items k d).made ≡ history (get_or l.initial.seat-items k d).number l.initial.hall.entries l.initial.hall.owners;
}
