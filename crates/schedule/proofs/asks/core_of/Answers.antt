use Rattle.std.proofs.Common.{arith}
use Rattle.std.proofs.lemmas.Grind.{common_steps}
use Rattle.schedule.proofs.asks.core_of.Goals as goal

pub returns-in_err-core : goal.returns-in_err-core
returns-in_err-core c = grind (arith, common_steps)

pub loop-ask-init : goal.loop-ask-init
loop-ask-init c = grind (arith, common_steps)

pub offset_bounds-asks-ask-index : goal.offset_bounds-asks-ask-index
offset_bounds-asks-ask-index c = grind (arith, common_steps)

pub bounds-asks-ask-index : goal.bounds-asks-ask-index
bounds-asks-ask-index c = grind (arith, common_steps)

pub returns-then-ne : goal.returns-then-ne
returns-then-ne c = grind (arith, common_steps)

pub loop-ask-smaller : goal.loop-ask-smaller
loop-ask-smaller c = grind (arith, common_steps)
