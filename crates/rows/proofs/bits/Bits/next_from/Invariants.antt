use Rattle.std.proofs.Common.{◌≡◌, ◌+◌, ◌*◌, ◌<◌, ◌≤◌, ℕ}
use Rattle.rows.specs.inner.Words.{bit}
use Rattle.rows.proofs.bits.Bits.next_from.Given as goal

abbrev pub invariant-loop-i : goal.invariant-loop-i
invariant-loop-i l = record {
  small : l.from < 64;
  near : l.at ≤ 64 * l.i + l.from;
  none : (q : ℕ) → l.at ≤ q → q < 64 * l.i + l.from → bit l.self-inside.words.items q ≡ 0;
}
