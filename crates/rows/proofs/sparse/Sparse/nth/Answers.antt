use Rattle.std.proofs.Common.{◌∙◌, arith}
use Rattle.std.proofs.lemmas.Grind.{common_steps, elements}
use Rattle.rows.proofs.Held.{items-at}
use Rattle.rows.proofs.sparse.Sparse.nth.Goals as goal

pub returns-clause-item : goal.returns-clause-item
returns-clause-item g c =
    rw (← c.self.view_is) (items-at c.self.inside.held.entries c.self.inside.places c.in_ok-at.at.now c.self.invariant.within ∙ c.in_ok-at.ensures.value)

pub returns-in_err-at-clause-item : goal.returns-in_err-at-clause-item
returns-in_err-at-clause-item g c = grind (arith, common_steps)

pub returns-in_err-at-clause-place : goal.returns-in_err-at-clause-place
returns-in_err-at-clause-place g c = grind (arith, elements)

pub returns-clause-place : goal.returns-clause-place
returns-clause-place g c = grind (arith, elements)
