use Rattle.std.proofs.Common.{None, ap, replicate, sym, ◌∙◌}
use Rattle.rows.proofs.Held.{items-empty, items-length}
use Rattle.rows.proofs.sparse.Sparse.clear.Goals as goal

pub returns-clause-items : goal.returns-clause-items
returns-clause-items g c =
    rw (← c.self.view_is)
    (items-empty c.clear.new.self.entries c.self.inside.places c.clear.ensures.empty
    ∙ ap (λ n. replicate n None) (sym (items-length c.self.inside.held.entries c.self.inside.places)))
