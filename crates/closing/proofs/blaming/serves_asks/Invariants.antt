use Rattle.std.proofs.Common.{◌≡◌, ◌<◌, ℕ, Some, slice_get, true}
use Rattle.closing.specs.declared.ranked.RankedPair.{RankedPair}
use Rattle.closing.specs.Blamed as blamed
use Rattle.closing.proofs.blaming.serves_asks.Given as goal

abbrev pub invariant-loop-ranked : goal.invariant-loop-ranked
invariant-loop-ranked l =
    (k : ℕ) → k < l.ranked-index → (r : RankedPair) → slice_get l.list k ≡ Some r → blamed.is_silent r.pair ≡ true →
    blamed.serves_asks l.tables r.pair.first.state ≡ true
