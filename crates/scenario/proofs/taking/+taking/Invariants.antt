use Rattle.std.proofs.Common.{◌+◌, ◌*◌}
use Rattle.scenario.specs.Limits.{depth, deepest}
use Rattle.scenario.specs.Tree.{plain, plain_all}
use Rattle.scenario.proofs.taking.+taking.Given as goal

abbrev pub decreases-take_one : goal.decreases-take_one
decreases-take_one g a = 2 * depth (plain a.tree.now)

abbrev pub decreases-take_in_turn : goal.decreases-take_in_turn
decreases-take_in_turn g a = 2 * deepest (plain_all a.children.now.items) + 1

abbrev pub decreases-take_from_any : goal.decreases-take_from_any
decreases-take_from_any g a = 2 * deepest (plain_all a.children.now.items) + 1

abbrev pub decreases-take_among : goal.decreases-take_among
decreases-take_among g a = 2 * deepest (plain_all a.children.now.items) + 1

abbrev pub decreases-take_from_turn : goal.decreases-take_from_turn
decreases-take_from_turn g a = 2 * depth (plain a.child.now) + 1
