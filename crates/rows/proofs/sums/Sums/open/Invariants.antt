use Rattle.std.proofs.Common.{◌≡◌, ◌-◌, ◌^◌, ◌<◌}
use Rattle.rows.specs.inner.Tree.{level_at}
use Rattle.rows.proofs.sums.Sums.open.Given as goal

abbrev pub invariant-loop-first : goal.invariant-loop-first
invariant-loop-first l = record {
  begins : l.first ≡ level_at l.levels;
  small : l.first < 2 ^ 33;
}

abbrev pub decreases-loop-first : goal.decreases-loop-first
decreases-loop-first l = l.count - l.first
