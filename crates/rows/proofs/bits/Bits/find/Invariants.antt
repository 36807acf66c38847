use Rattle.std.proofs.Common.{◌≡◌, ◌+◌, ◌*◌}
use Rattle.rows.specs.inner.Words.{below}
use Rattle.rows.proofs.bits.Bits.find.Given as goal

abbrev pub invariant-loop-i : goal.invariant-loop-i
invariant-loop-i l = below l.word-items (64 * l.i) + l.left ≡ l.k
