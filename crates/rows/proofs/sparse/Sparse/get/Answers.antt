use Rattle.std.proofs.Common.{sym, ◌∙◌}
use Rattle.rows.proofs.Held.{items-at}
use Rattle.rows.proofs.sparse.Sparse.get.Goals as goal

pub returns-in-Some : goal.returns-in-Some
returns-in-Some g c =
    rw (← c.self.view_is)
    (sym c.in-Some.ensures.some ∙ sym (items-at c.self.inside.held.entries c.self.inside.places c.args.at c.self.invariant.within))

pub returns-then-self : goal.returns-then-self
returns-then-self g c =
    rw (← c.self.view_is)
    (sym (items-at c.self.inside.held.entries c.self.inside.places c.args.at c.self.invariant.within
    ∙ c.in_default.ensures.none (c.self.invariant.hinted c.if-self.true)))
