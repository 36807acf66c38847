use Rattle.std.proofs.Common.{arith}
use Rattle.std.proofs.lemmas.Grind.{common_steps}
use Rattle.command_trials.proofs.sharing.print_claimed.Goals as goal

pub loop-init : goal.loop-init
loop-init g c = grind (arith, common_steps)

pub claim-requires : goal.claim-requires
claim-requires g c = grind (arith, common_steps)

pub returns-in_err-made : goal.returns-in_err-made
returns-in_err-made g c = grind (arith, common_steps)

pub post-requires-clause-seat : goal.post-requires-clause-seat
post-requires-clause-seat g c = grind (arith, common_steps)

pub returns-then-is_err : goal.returns-then-is_err
returns-then-is_err g c = grind (arith, common_steps)

pub print_ready-requires : goal.print_ready-requires
print_ready-requires g c = grind (arith, common_steps)

pub loop-smaller : goal.loop-smaller
loop-smaller g c = grind (arith, common_steps)

pub loop-preserved : goal.loop-preserved
loop-preserved g c = grind (arith, common_steps)

pub returns-after-loop : goal.returns-after-loop
returns-after-loop g c = grind (arith, common_steps)

pub returns-in_default : goal.returns-in_default
returns-in_default g c = grind (arith, common_steps)

pub returns-then-is_over : goal.returns-then-is_over
returns-then-is_over g c = grind (arith, common_steps)
