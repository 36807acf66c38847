use Rattle.std.proofs.Common.{length}
use Rattle.closing.proofs.balancing.+sharings_on.Given as goal

abbrev pub decreases-sharings_on : goal.decreases-sharings_on
decreases-sharings_on l = length l.link.now
