use Rattle.std.proofs.Common.{sym, ◌∙◌}
use Rattle.rows.proofs.Held.{items-at}
use Rattle.rows.proofs.sparse.Sparse.seek.Goals as goal

pub returns : goal.returns
returns g c =
    rw (← c.self.view_is) (c.get.ensures.value ∙ sym (items-at c.self.inside.held.entries c.self.inside.places c.args.at c.self.invariant.within))
