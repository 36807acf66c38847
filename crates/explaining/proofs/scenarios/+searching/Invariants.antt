use Rattle.std.proofs.Common.{◌+◌, ◌*◌}
use Rattle.explaining.proofs.scenarios.+searching.Given as goal

abbrev pub decreases-tell_node : goal.decreases-tell_node
decreases-tell_node a = 2 * a.levels

abbrev pub decreases-tell_children : goal.decreases-tell_children
decreases-tell_children a = 2 * a.levels + 1

abbrev pub decreases-tell_child : goal.decreases-tell_child
decreases-tell_child a = 2 * a.levels + 1
