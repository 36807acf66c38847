use Rattle.std.proofs.Common.{◌≡◌, ◌≤◌, ◌+◌, drop}
use Rattle.control.specs.inner.HomeCounting.{forwards_by, forwards_to}
use Rattle.control.proofs.home_counts.forwards_to.Given as goal

abbrev pub invariant-loop-action : goal.invariant-loop-action
invariant-loop-action l = record {
  rest : l.count + forwards_by l.flagged l.cache l.from l.owner l.sharer (drop l.action-index l.actions) ≡ forwards_to l.cache l.from l.actions l.home;
  few : l.count ≤ l.action-index;
}
