use Rattle.std.proofs.Common.{◌≡◌, ◌<◌, ℕ, Some, slice_get, length, if◌then◌else◌}
use Rattle.closing.specs.declared.ranked.RankedPair.{RankedPair}
use Rattle.closing.specs.inner.Numbered.{IsNumberOfView, first_view, second_view}
use Rattle.closing.proofs.numbering.numbers_of.Given as goal

abbrev pub invariant-loop-ranked : goal.invariant-loop-ranked
invariant-loop-ranked l = record {
  count : length l.numbers.items ≡ l.ranked-index;
  known : (k : ℕ) → k < l.ranked-index → (p : RankedPair) → slice_get l.list k ≡ Some p →
      (n : ℕ) × (slice_get l.numbers.items k ≡ Some n) × IsNumberOfView l.views (if l.second then second_view p.pair else first_view p.pair) n;
}
