use Rattle.std.proofs.Common.{arith}
use Rattle.std.proofs.lemmas.Grind.{common_steps}
use Rattle.world.proofs.counts.Counts.open.Goals as goal

pub invariant_of-result : goal.invariant_of-result
invariant_of-result c = grind (arith, common_steps)

pub returns : goal.returns
returns c = λ i. record { requests = c.in_ok-requests.ensures i; heads = c.in_ok-heads.ensures i; responses = c.in_ok-responses.ensures i }
