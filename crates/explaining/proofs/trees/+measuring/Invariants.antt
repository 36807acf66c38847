use Rattle.std.proofs.Common.{◌+◌, ◌*◌}
use Rattle.explaining.proofs.trees.+measuring.Given as goal

abbrev pub decreases-longest : goal.decreases-longest
decreases-longest a = 2 * a.levels

abbrev pub decreases-greatest : goal.decreases-greatest
decreases-greatest a = 2 * a.levels + 1

abbrev pub decreases-total : goal.decreases-total
decreases-total a = 2 * a.levels + 1
