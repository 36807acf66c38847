use Rattle.std.proofs.Common.{◌≡◌, take}
use Rattle.base.proofs.controller.actions.Actions.of.Given as goal

-- the actions so far are kept
abbrev pub invariant-loop-action : goal.invariant-loop-action
invariant-loop-action g l = l.kept ≡ take l.action-index l.actions
