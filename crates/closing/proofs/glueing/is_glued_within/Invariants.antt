use Rattle.std.proofs.Common.{◌≡◌, ◌<◌, ◌≤◌, ℕ, Some, slice_get}
use Rattle.closing.specs.declared.ranked.RankedPair.{RankedPair}
use Rattle.closing.specs.inner.Told.{Glues}
use Rattle.closing.proofs.glueing.is_glued_within.Given as goal

abbrev pub invariant-loop-place : goal.invariant-loop-place
invariant-loop-place l =
    (k : ℕ) → k < l.place → (r : RankedPair) → l.fn.span.begin ≤ k → slice_get l.numbers.seconds.items k ≡ Some l.fn.second → slice_get l.list k ≡ Some r →
    Glues l.list l.neighbour r l.one l.other
