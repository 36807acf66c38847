use Rattle.std.proofs.Common.{arith}
use Rattle.std.proofs.lemmas.Grind.{common_steps}
use Rattle.lanes.proofs.lanes.making.marks_of.Goals as goal

pub loop-lane-init : goal.loop-lane-init
loop-lane-init g c = grind (arith, common_steps)

pub loop-lane-preserved : goal.loop-lane-preserved
loop-lane-preserved g c = grind (arith, common_steps)

pub returns : goal.returns
returns g c = grind (arith, common_steps)
