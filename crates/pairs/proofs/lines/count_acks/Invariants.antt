use Rattle.std.proofs.Common.{◌≡◌, ◌≤◌, ◌+◌, drop}
use Rattle.pairs.specs.Sights.{inv_acks}
use Rattle.pairs.proofs.lines.count_acks.Given as goal

abbrev pub invariant-loop-action : goal.invariant-loop-action
invariant-loop-action l = record {
  acks : l.count + inv_acks (drop l.action-index l.actions) ≡ inv_acks l.actions;
  few : l.count ≤ l.action-index;
}
