use Rattle.std.proofs.Common.{sym}
use Rattle.rows.proofs.Held.{items-length}
use Rattle.rows.proofs.sparse.Sparse.places.Goals as goal

pub returns : goal.returns
returns g c = rw (← c.self.view_is) (sym (items-length c.self.inside.held.entries c.self.inside.places))
