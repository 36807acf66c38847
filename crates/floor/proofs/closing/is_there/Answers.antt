use Rattle.std.proofs.Common.{arith}
use Rattle.std.proofs.lemmas.Grind.{common_steps}
use Rattle.floor.proofs.closing.is_there.Goals as goal

pub loop-seat-init : goal.loop-seat-init
loop-seat-init g c = grind (arith, common_steps)

pub offset_bounds-seats-seat-index : goal.offset_bounds-seats-seat-index
offset_bounds-seats-seat-index g c = grind (arith, common_steps)

pub bounds-seats-seat-index : goal.bounds-seats-seat-index
bounds-seats-seat-index g c = grind (arith, common_steps)

pub loop-seat-smaller : goal.loop-seat-smaller
loop-seat-smaller g c = grind (arith, common_steps)

pub loop-seat-preserved : goal.loop-seat-preserved
loop-seat-preserved g c = grind (arith, common_steps)

pub returns : goal.returns
returns g c = grind (arith, common_steps)
