use Rattle.std.proofs.Common.{◌≡◌, ◌≤◌, ◌+◌, drop}
use Rattle.control.specs.inner.HomeCounting.{replies_by}
use Rattle.control.proofs.home_counts.replies.Given as goal

abbrev pub invariant-loop-action : goal.invariant-loop-action
invariant-loop-action l = record {
  rest : l.count + replies_by (drop l.action-index l.actions) ≡ replies_by l.actions;
  few : l.count ≤ l.action-index;
}
