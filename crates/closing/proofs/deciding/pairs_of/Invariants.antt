use Rattle.std.proofs.Common.{◌≡◌, ◌<◌, ℕ, Some, slice_get, Contains}
use Rattle.pairs.specs.declared.pair.Pair.{Pair}
use Rattle.closing.specs.declared.ranked.RankedPair.{RankedPair}
use Rattle.closing.proofs.deciding.pairs_of.Given as goal

abbrev pub invariant-loop-ranked : goal.invariant-loop-ranked
invariant-loop-ranked l = record {
  all : (k : ℕ) → k < l.ranked-index → (r : RankedPair) → slice_get l.list k ≡ Some r → Contains l.pairs.items r.pair;
  only : (p : Pair) → Contains l.pairs.items p → (r : RankedPair) × Contains l.list r × (r.pair ≡ p);
}
