use Rattle.std.proofs.Common.{◌≡◌, ◌<◌, ℕ, Some, slice_get}
use Rattle.closing.specs.declared.ranked.RankedPair.{RankedPair}
use Rattle.closing.specs.inner.Explained.{IsExplained}
use Rattle.closing.proofs.blaming.are_explained.Given as goal

abbrev pub invariant-loop-ranked : goal.invariant-loop-ranked
invariant-loop-ranked l = (k : ℕ) → k < l.ranked-index → (r : RankedPair) → slice_get l.list k ≡ Some r → IsExplained l.tables l.list r.pair
