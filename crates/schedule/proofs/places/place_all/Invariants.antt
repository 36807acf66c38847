use Rattle.std.proofs.Common.{◌≡◌, length}
use Rattle.schedule.specs.inner.Places.{AreInRows}
use Rattle.schedule.proofs.Placing.{rows_in}
use Rattle.schedule.proofs.places.place_all.Given as goal

abbrev pub invariant-loop-number : goal.invariant-loop-number
invariant-loop-number l = (length l.rows.items ≡ 64) × AreInRows (rows_in l.rows.items) l.asks l.number
