use Rattle.std.proofs.Common.{◌≡◌, ◌+◌, ◌<◌, ◌≤◌}
use Rattle.rows.specs.inner.Words.{low}
use Rattle.rows.proofs.Lowest.{LacksFirst}
use Rattle.rows.proofs.bits.find_in.Given as goal

abbrev pub invariant-loop-left : goal.invariant-loop-left
invariant-loop-left l = record {
  placed : low l.word l.at + l.left ≡ l.k;
  among : l.k < low l.word (l.at + l.width);
  within : l.at + l.width ≤ 64;
  some : 0 < l.width;
}

abbrev pub decreases-loop-left : goal.decreases-loop-left
decreases-loop-left l = l.width

abbrev pub invariant-loop : goal.invariant-loop
invariant-loop l = record {
  placed : low l.word l.at + l.left ≡ l.k;
  some : l.k < low l.word 64;
  rest : LacksFirst l.word (low l.word l.at + l.counter) l.rest;
}
