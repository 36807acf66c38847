use Rattle.std.proofs.Common.{◌≡◌, ℕ, ◌<◌, eqb, get_or, false}
use Rattle.base.proofs.words.blank_at.Given as goal

abbrev pub invariant-loop-i : goal.invariant-loop-i
invariant-loop-i l = (k : ℕ) → k < l.i → eqb (get_or l.line k 0) 32 ≡ false
