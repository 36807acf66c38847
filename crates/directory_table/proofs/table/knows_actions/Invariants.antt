use Rattle.std.proofs.Common.{◌≡◌, drop}
use Rattle.directory_table.specs.Table.{has_actions}
use Rattle.directory_table.proofs.table.knows_actions.Given as goal

-- what is left to test says whether all are there
abbrev pub invariant-loop-action : goal.invariant-loop-action
invariant-loop-action l = has_actions l.protocol (drop l.action-index l.actions) ≡ has_actions l.protocol l.actions
