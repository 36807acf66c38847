use Rattle.std.proofs.Common.{◌≡◌, ◌≤◌, ◌+◌, drop}
use Rattle.control.specs.inner.LineCounting.{requests_by, responses_by}
use Rattle.control.proofs.needs.count.Given as goal

abbrev pub invariant-loop-action : goal.invariant-loop-action
invariant-loop-action l = record {
  requests : l.requests + requests_by (drop l.action-index l.actions) ≡ requests_by l.actions;
  responses : l.responses + responses_by l.to (drop l.action-index l.actions) ≡ responses_by l.to l.actions;
  few : l.requests + l.responses ≤ l.action-index;
}
