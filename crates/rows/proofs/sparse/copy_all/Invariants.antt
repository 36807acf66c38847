use Rattle.std.proofs.Common.{◌≡◌, ◌++◌}
use Rattle.rows.specs.inner.Items.{seen_entries}
use Rattle.rows.proofs.sparse.copy_all.Given as goal

abbrev pub invariant-loop-at : goal.invariant-loop-at
invariant-loop-at g l = record {
  can : (goal.iterator-loop-at g).can_next l.at-iterator;
  ends : (goal.iterator-loop-at g).is_finite l.at-iterator;
  copied : seen_entries g.T.TryClone.seen l.to.entries ++ seen_entries g.T.TryClone.seen l.at-iterator ≡
      seen_entries g.T.TryClone.seen l.from.entries;
}
