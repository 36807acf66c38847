use Rattle.rows.proofs.Held.{touched}
use Rattle.rows.proofs.sparse.Sparse.held.Goals as goal

pub returns-clause-touched : goal.returns-clause-touched
returns-clause-touched g c =
    rw (← c.self.view_is) (touched c.self.inside.held.entries c.self.inside.places _ c.self.invariant.within c.len.ensures.unique)
