use Rattle.std.proofs.Common.{arith}
use Rattle.std.proofs.lemmas.Grind.{common_steps}
use Rattle.world.proofs.counts.Counts.find.Goals as goal

pub returns-then-left-requests-clause-some : goal.returns-then-left-requests-clause-some
returns-then-left-requests-clause-some c = grind (arith, common_steps)

pub returns-then-left-requests-clause-none : goal.returns-then-left-requests-clause-none
returns-then-left-requests-clause-none c = grind (arith, common_steps)

pub returns-then-left-heads-clause-some : goal.returns-then-left-heads-clause-some
returns-then-left-heads-clause-some c = grind (arith, common_steps)

pub returns-then-left-heads-clause-none : goal.returns-then-left-heads-clause-none
returns-then-left-heads-clause-none c = grind (arith, common_steps)

pub returns-then-left-total-clause-some : goal.returns-then-left-total-clause-some
returns-then-left-total-clause-some c = grind (arith, common_steps)

pub returns-then-left-total-clause-none : goal.returns-then-left-total-clause-none
returns-then-left-total-clause-none c = grind (arith, common_steps)

pub returns-clause-some : goal.returns-clause-some
returns-clause-some c = grind (arith, common_steps)

pub returns-clause-none : goal.returns-clause-none
returns-clause-none c = grind (arith, common_steps)
