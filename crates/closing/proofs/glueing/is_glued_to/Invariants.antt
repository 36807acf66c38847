use Rattle.std.proofs.Common.{◌≡◌, ◌<◌, ℕ, Some, slice_get}
use Rattle.closing.specs.declared.following.Followed.{Followed}
use Rattle.closing.specs.inner.Told.{AreOne}
use Rattle.closing.specs.inner.Told.{GluesOver}
use Rattle.closing.proofs.glueing.is_glued_to.Given as goal

abbrev pub invariant-loop-other : goal.invariant-loop-other
invariant-loop-other l =
    (n : ℕ) → n < l.other-index → (g : Followed) → slice_get l.theirs n ≡ Some g → AreOne l.one g →
    GluesOver l.list l.numbers.seconds.items l.span l.second l.neighbour l.one g
