use Rattle.std.proofs.Common.{◌≡◌, ◌<◌, ℕ, Some, slice_get}
use Rattle.closing.specs.declared.numbering.View.{View}
use Rattle.closing.proofs.numbering.are_distinct.Given as goal

abbrev pub invariant-loop-number : goal.invariant-loop-number
invariant-loop-number l =
    (n : ℕ) → n < l.number → (v : View) → slice_get l.views n ≡ Some v → (k : ℕ) → k < n → slice_get l.views k ≡ Some v → ⊥
