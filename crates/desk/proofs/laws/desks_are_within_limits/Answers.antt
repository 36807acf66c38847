use Rattle.std.proofs.Common.{ap, subst, length}
use Rattle.once_cell.specs.Once.{cell_name}
use Rattle.desk.specs.Opening.{AreWithinLimits}
use Rattle.desk.proofs.Lists.{long_as}
use Rattle.desk.proofs.laws.desks_are_within_limits.Goals as goal

pub returns : goal.returns
returns g c =
    let d = c.desk.inside in
    let seen = c.desk.view_is in
    let cells = long_as cell_name d.cells.items c.args.desk.now.id.cells (ap (λ x. x.id.cells) seen) in
    subst (λ n. AreWithinLimits n c.args.desk.now.seats) cells
    (subst (λ n. AreWithinLimits (length d.cells.items) n) (ap (λ x. x.seats) seen) c.desk.invariant.within)
