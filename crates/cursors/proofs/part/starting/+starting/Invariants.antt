use Rattle.std.proofs.Common.{◌+◌, ◌*◌}
use Rattle.scenario.specs.Limits.{depth, deepest}
use Rattle.scenario.specs.Tree.{plain, plain_all}
use Rattle.cursors.proofs.part.starting.+starting.Given as goal

abbrev pub decreases-start : goal.decreases-start
decreases-start g a = 3 * depth (plain a.tree.now)

abbrev pub decreases-start_part : goal.decreases-start_part
decreases-start_part g a = 3 * depth (plain a.tree.now) + 1

abbrev pub decreases-start_row : goal.decreases-start_row
decreases-start_row g a = 3 * deepest (plain_all a.children.now) + 2

abbrev pub decreases-start_turn : goal.decreases-start_turn
decreases-start_turn g a = 3 * depth (plain a.child.now) + 2

abbrev pub decreases-start_both : goal.decreases-start_both
decreases-start_both g a = 3 * deepest (plain_all a.children.now) + 2
