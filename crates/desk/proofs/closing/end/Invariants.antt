use Rattle.std.proofs.Common.{◌≡◌, ◌<◌, ℕ, length, get_or, None}
use Rattle.desk.specs.inner.Keeping.{IsPlaceUpTo}
use Rattle.desk.proofs.closing.end.Given as goal

abbrev pub invariant-loop-seat : goal.invariant-loop-seat
invariant-loop-seat g l = record {
  seats : l.seat-items ≡ l.initial.seat-items;
  long : length l.places.items ≡ length l.fn.desk.id.cells;
  places : (k : ℕ) → k < length l.fn.desk.id.cells → IsPlaceUpTo g.D.Planned.plan l.initial.seat-items l.seat-index k (get_or l.places.items k None);
}
