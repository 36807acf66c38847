use Rattle.std.proofs.Common.{◌∙◌, arith}
use Rattle.std.proofs.lemmas.List.{get_or_default}
use Rattle.rows.proofs.Tree.{root-sum, sum-few}
use Rattle.rows.proofs.sums.Sums.total.Goals as goal

pub returns-clause-total : goal.returns-clause-total
returns-clause-total c =
    let tree = c.self.inside.tree.items in
    rw (← c.self.view_is)
    (c.index.ensures ∙ get_or_default tree 0 c.index.result.now 0 (omega (arith, c.self.invariant.long))
    ∙ root-sum tree c.self.inside.first c.self.inside.levels c.self.inside.count c.self.invariant)

pub returns-clause-few : goal.returns-clause-few
returns-clause-few c =
    rw (← c.self.view_is) (sum-few c.self.inside.tree.items c.self.inside.first c.self.inside.levels c.self.inside.count c.self.invariant)
