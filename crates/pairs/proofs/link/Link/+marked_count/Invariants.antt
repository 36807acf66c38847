use Rattle.std.proofs.Common.{length}
use Rattle.pairs.proofs.link.Link.+marked_count.Given as goal

abbrev pub decreases-marked_count : goal.decreases-marked_count
decreases-marked_count l = length l.self.now
