use Rattle.std.proofs.Common.{arith}
use Rattle.std.proofs.lemmas.Grind.{common_steps}
use Rattle.world.proofs.counts.Counts.try_clone.Goals as goal

pub returns-in_err-requests : goal.returns-in_err-requests
returns-in_err-requests c = grind (arith, common_steps)

pub returns-in_err-heads : goal.returns-in_err-heads
returns-in_err-heads c = grind (arith, common_steps)

pub returns-in_err-responses : goal.returns-in_err-responses
returns-in_err-responses c = grind (arith, common_steps)

pub invariant_of-result : goal.invariant_of-result
invariant_of-result c = grind (arith, common_steps)

pub returns : goal.returns
returns c = grind (arith, common_steps)
