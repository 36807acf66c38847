use Rattle.std.proofs.Common.{◌≢◌, ◌<◌, ℕ, get_or}
use Rattle.floor.specs.Turning.{SeatView}
use Rattle.floor.proofs.closing.is_there.Given as goal

abbrev pub invariant-loop-seat : goal.invariant-loop-seat
invariant-loop-seat g l = (k : ℕ) (d : SeatView) → k < l.seat-index → (get_or l.seats k d).number ≢ l.number
