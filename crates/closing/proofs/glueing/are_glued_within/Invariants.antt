use Rattle.std.proofs.Common.{◌≡◌, ◌<◌, ℕ, Some, slice_get}
use Rattle.closing.specs.declared.following.Followed.{Followed}
use Rattle.closing.specs.inner.Told.{AreOne}
use Rattle.closing.specs.inner.Told.{GluesOver}
use Rattle.closing.proofs.glueing.are_glued_within.Given as goal

abbrev pub invariant-loop-one : goal.invariant-loop-one
invariant-loop-one l =
    (m : ℕ) → m < l.one-index → (f : Followed) → slice_get l.mine m ≡ Some f → (n : ℕ) (g : Followed) → slice_get l.theirs n ≡ Some g → AreOne f g →
    GluesOver l.list l.numbers.seconds.items l.span l.second l.neighbour f g
