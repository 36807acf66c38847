use Rattle.std.proofs.Common.{◌≡◌, ◌≤◌, ◌+◌, ◌*◌, ◌++◌, length, map, take}
use Rattle.base.specs.Words.{spaced}
use Rattle.base.proofs.controller.spelling.push_actions.Given as goal

abbrev pub invariant-loop-action : goal.invariant-loop-action
invariant-loop-action g l =
    (l.text ≡ l.initial.text ++ spaced (map g.A.Listed.spelling (take l.action-index l.actions))) × (length l.text ≤ 60 + 14 * l.action-index)
