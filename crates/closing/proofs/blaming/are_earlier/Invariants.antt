use Rattle.std.proofs.Common.{◌≡◌, ◌<◌, ℕ, Some, slice_get}
use Rattle.closing.specs.declared.ranked.Order.TheVariants.{After}
use Rattle.closing.specs.declared.ranked.RankedPair.{RankedPair}
use Rattle.closing.specs.Blamed as blamed
use Rattle.closing.proofs.blaming.are_earlier.Given as goal

abbrev pub invariant-loop-other : goal.invariant-loop-other
invariant-loop-other l =
    (k : ℕ) → k < l.other-index → (q : RankedPair) → slice_get l.list k ≡ Some q → blamed.IsBlamable l.tables l.kind l.pair q.pair → q.order ≡ After
