use Rattle.std.proofs.Common.{length}
use Rattle.pairs.proofs.link.Link.+own_count.Given as goal

abbrev pub decreases-own_count : goal.decreases-own_count
decreases-own_count l = length l.self.now
