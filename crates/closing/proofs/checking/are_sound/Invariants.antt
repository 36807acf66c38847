use Rattle.std.proofs.Common.{◌≡◌, ◌<◌, ℕ, Some, slice_get}
use Rattle.closing.specs.declared.ranked.RankedPair.{RankedPair}
use Rattle.closing.specs.inner.Told.{IsSound}
use Rattle.closing.proofs.checking.are_sound.Given as goal

abbrev pub invariant-loop-ranked : goal.invariant-loop-ranked
invariant-loop-ranked l = (k : ℕ) → k < l.ranked-index → (p : RankedPair) → slice_get l.list k ≡ Some p → IsSound l.tables l.list p
