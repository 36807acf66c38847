use Rattle.std.proofs.Common.{◌≡◌, length}
use Rattle.schedule.proofs.Placing.{AreAnewBy}
use Rattle.schedule.proofs.places.mark_listed.Given as goal

abbrev pub invariant-loop-place : goal.invariant-loop-place
invariant-loop-place l =
    (length l.unheld ≡ length l.asks) × AreAnewBy l.held l.core l.block l.asks l.initial.unheld l.unheld l.places l.place-index
