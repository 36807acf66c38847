use Rattle.std.proofs.Common.{arith}
use Rattle.std.proofs.lemmas.Grind.{common_steps}
use Rattle.desk.proofs.desks.Desk.close.Goals as goal

pub overflow_cast-self-inside : goal.overflow_cast-self-inside
overflow_cast-self-inside g c = grind (arith, common_steps)

pub returns-then-len-self-clause-closed : goal.returns-then-len-self-clause-closed
returns-then-len-self-clause-closed g c = grind (arith, common_steps)

pub returns-then-len-self-clause-refused : goal.returns-then-len-self-clause-refused
returns-then-len-self-clause-refused g c = grind (arith, common_steps)

pub returns-in_default-clause-closed : goal.returns-in_default-clause-closed
returns-in_default-clause-closed g c = grind (arith, common_steps)

pub returns-in_default-clause-refused : goal.returns-in_default-clause-refused
returns-in_default-clause-refused g c = grind (arith, common_steps)

pub returns-clause-closed : goal.returns-clause-closed
returns-clause-closed g c = grind (arith, common_steps)

pub returns-clause-refused : goal.returns-clause-refused
returns-clause-refused g c = grind (arith, common_steps)
