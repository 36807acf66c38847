use Rattle.std.proofs.Common.{◌≡◌, ◌≤◌, ◌+◌, ◌||◌, drop}
use Rattle.control.specs.inner.HomeCounting.{invalidates, reaches_owner, reaches_sender, replies_by}
use Rattle.control.proofs.home_counts.reach_of.Given as goal

abbrev pub invariant-loop-action : goal.invariant-loop-action
invariant-loop-action l = record {
  replies : l.replies + replies_by (drop l.action-index l.actions) ≡ replies_by l.actions;
  few : l.replies ≤ l.action-index;
  sender : (l.sender || reaches_sender (drop l.action-index l.actions)) ≡ reaches_sender l.actions;
  owner : (l.owner || reaches_owner (drop l.action-index l.actions)) ≡ reaches_owner l.actions;
  sharers : (l.sharers || invalidates (drop l.action-index l.actions)) ≡ invalidates l.actions;
}
