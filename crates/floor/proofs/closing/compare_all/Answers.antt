use Rattle.std.proofs.Common.{arith}
use Rattle.std.proofs.lemmas.Grind.{common_steps}
use Rattle.floor.proofs.closing.compare_all.Goals as goal

pub loop-seat-init : goal.loop-seat-init
loop-seat-init g c = grind (arith, common_steps)

pub offset_bounds-seat-items-seat-index : goal.offset_bounds-seat-items-seat-index
offset_bounds-seat-items-seat-index g c = grind (arith, common_steps)

pub bounds-seat-items-seat-index : goal.bounds-seat-items-seat-index
bounds-seat-items-seat-index g c = grind (arith, common_steps)

pub loop-seat-smaller : goal.loop-seat-smaller
loop-seat-smaller g c = grind (arith, common_steps)

pub loop-seat-preserved : goal.loop-seat-preserved
loop-seat-preserved g c = grind (arith, common_steps)

pub returns-clause-histories : goal.returns-clause-histories
returns-clause-histories g c = grind (arith, common_steps)

pub returns-clause-same : goal.returns-clause-same
returns-clause-same g c = grind (arith, common_steps)
