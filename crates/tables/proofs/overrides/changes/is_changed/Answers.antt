use Rattle.std.proofs.Common.{arith}
use Rattle.std.proofs.lemmas.Grind.{common_steps}
use Rattle.tables.proofs.overrides.changes.is_changed.Goals as goal

pub loop-earlier-preserved : goal.loop-earlier-preserved
loop-earlier-preserved g c = grind (arith, common_steps)

pub loop-earlier-init : goal.loop-earlier-init
loop-earlier-init g c = grind (arith, common_steps)

pub offset_bounds-changes-earlier-index : goal.offset_bounds-changes-earlier-index
offset_bounds-changes-earlier-index g c = grind (arith, common_steps)

pub bounds-changes-earlier-index : goal.bounds-changes-earlier-index
bounds-changes-earlier-index g c = grind (arith, common_steps)

pub returns-then-is_of_same_cell : goal.returns-then-is_of_same_cell
returns-then-is_of_same_cell g c = grind (arith, common_steps)

pub loop-earlier-smaller : goal.loop-earlier-smaller
loop-earlier-smaller g c = grind (arith, common_steps)

pub returns : goal.returns
returns g c = grind (arith, common_steps)
