use Rattle.std.proofs.Common.{sym}
use Rattle.rows.proofs.Tree.{numbers-length}
use Rattle.rows.proofs.sums.Sums.len.Goals as goal

pub returns : goal.returns
returns c =
    rw (← c.self.view_is) (sym (numbers-length c.self.inside.tree.items c.self.inside.first c.self.inside.levels c.self.inside.count c.self.invariant))
