use Rattle.std.proofs.Common.{◌≡◌, ◌<◌, ℕ, Some, slice_get, length}
use Rattle.std.specs.Global.{Vec}
use Rattle.closing.specs.declared.ranked.RankedPair.{RankedPair}
use Rattle.closing.specs.declared.following.Followed.{Followed}
use Rattle.closing.specs.inner.Told.{IsFollowedBy}
use Rattle.closing.proofs.checking.all_steps.Given as goal

abbrev pub invariant-loop-ranked : goal.invariant-loop-ranked
invariant-loop-ranked l = record {
  count : length l.all.items ≡ l.ranked-index;
  known : (k : ℕ) → k < l.ranked-index → (p : RankedPair) → slice_get l.list k ≡ Some p →
      (told : Vec Followed) × (slice_get l.all.items k ≡ Some told) × IsFollowedBy l.tables l.list p told.items;
}
