use Rattle.std.proofs.Common.{arith}
use Rattle.std.proofs.lemmas.Grind.{common_steps}
use Rattle.lanes.proofs.lanes.making.each_of.Goals as goal

pub loop-tree-init : goal.loop-tree-init
loop-tree-init g c = grind (arith, common_steps)

pub loop-tree-preserved : goal.loop-tree-preserved
loop-tree-preserved g c = grind (arith, common_steps)

pub returns : goal.returns
returns g c = grind (arith, common_steps)

pub loop-tree-smaller : goal.loop-tree-smaller
loop-tree-smaller g c = grind (arith, common_steps)
