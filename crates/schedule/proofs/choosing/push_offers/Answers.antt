use Rattle.std.proofs.Common.{arith}
use Rattle.std.proofs.lemmas.Grind.{common_steps}
use Rattle.schedule.proofs.choosing.push_offers.Goals as goal

pub loop-number-init : goal.loop-number-init
loop-number-init c = grind (arith, common_steps)

pub offset_bounds-offers-number : goal.offset_bounds-offers-number
offset_bounds-offers-number c = grind (arith, common_steps)

pub bounds-offers-number : goal.bounds-offers-number
bounds-offers-number c = grind (arith, common_steps)

pub returns-in_err-push : goal.returns-in_err-push
returns-in_err-push c = grind (arith, common_steps)

pub loop-number-smaller : goal.loop-number-smaller
loop-number-smaller c = grind (arith, common_steps)

pub loop-number-preserved : goal.loop-number-preserved
loop-number-preserved c = grind (arith, common_steps)

pub returns : goal.returns
returns c = grind (arith, common_steps)
