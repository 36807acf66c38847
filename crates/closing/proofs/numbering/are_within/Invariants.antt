use Rattle.std.proofs.Common.{◌≡◌, ◌<◌, ◌≤◌, ℕ, Some, slice_get}
use Rattle.closing.specs.declared.numbering.Span.{Span}
use Rattle.closing.proofs.numbering.are_within.Given as goal

abbrev pub invariant-loop-place : goal.invariant-loop-place
invariant-loop-place l =
    (k : ℕ) → k < l.place → (n : ℕ) → slice_get l.firsts k ≡ Some n → (s : Span) × (slice_get l.spans n ≡ Some s) × (s.begin ≤ k) × (k < s.end)
