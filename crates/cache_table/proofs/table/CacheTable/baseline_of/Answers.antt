use Rattle.std.proofs.Common.{inl, rules}
use Rattle.cache_table.proofs.BaselineCells.{cell-baseline}
use Rattle.cache_table.proofs.table.CacheTable.baseline_of.Goals as goal

pub returns-clause-entries : goal.returns-clause-entries
returns-clause-entries c = λ state event. rw c.baseline_rows.ensures (cell-baseline c.args.protocol state event)

pub invariant_of-result : goal.invariant_of-result
invariant_of-result c = record {
  whole = search rules;
  keeps = λ state event. inl (rw c.baseline_rows.ensures (cell-baseline c.args.protocol state event));
}
