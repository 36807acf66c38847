use Rattle.std.proofs.Common.{◌≡◌, ◌<◌, ℕ, Some, slice_get}
use Rattle.std.specs.Global.{Vec}
use Rattle.closing.specs.declared.following.Followed.{Followed}
use Rattle.closing.specs.declared.ranked.RankedPair.{RankedPair}
use Rattle.closing.specs.inner.Told.{IsBalanced}
use Rattle.closing.proofs.balancing.are_balanced.Given as goal

abbrev pub invariant-loop-place : goal.invariant-loop-place
invariant-loop-place l =
    (k : ℕ) → k < l.place → (r : RankedPair) (told : Vec Followed) → slice_get l.list k ≡ Some r → slice_get l.steps k ≡ Some told →
    IsBalanced l.tables r.pair told.items
