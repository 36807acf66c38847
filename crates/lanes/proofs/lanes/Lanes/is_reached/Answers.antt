use Rattle.std.proofs.Common.{◌<◌, length, subst, arith}
use Rattle.std.specs.List.{Contains}
use Rattle.std.proofs.lemmas.List.{length-map}
use Rattle.lanes.proofs.Reached.{row-items}
use Rattle.lanes.proofs.lanes.Lanes.is_reached.Goals as goal

pub returns-in-Some : goal.returns-in-Some
returns-in-Some g c done =
    let some = c.self.invariant.level.rows in
    let many = length-map c.self.inside.reached.items (λ of. of.items) in
    let row = c.row_of-row.ensures in
    let there : c.row_of-row.result < length c.self.inside.reached.items = grind arith in
    let which = row-items c.self.inside.reached.items c.row_of-row.result c.in-Some.core.0 c.index.result.now there c.index.ensures row in
    rw (← c.self.view_is) (c.in-Some.core, c.in-Some.ensures.some, subst (λ ws. Contains ws c.args.lane) which (c.has.ensures done))
