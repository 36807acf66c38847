use Rattle.std.proofs.Common.{arith}
use Rattle.std.proofs.lemmas.Grind.{common_steps}
use Rattle.desk.proofs.desks.make_desk.Goals as goal

pub returns-in_err-word-clause-desk : goal.returns-in_err-word-clause-desk
returns-in_err-word-clause-desk g c = grind (arith, common_steps)

pub returns-in_err-word-clause-token : goal.returns-in_err-word-clause-token
returns-in_err-word-clause-token g c = grind (arith, common_steps)

pub returns-in_err-cells-clause-desk : goal.returns-in_err-cells-clause-desk
returns-in_err-cells-clause-desk g c = grind (arith, common_steps)

pub returns-in_err-cells-clause-token : goal.returns-in_err-cells-clause-token
returns-in_err-cells-clause-token g c = grind (arith, common_steps)

pub invariant_of-desk : goal.invariant_of-desk
invariant_of-desk g c = grind (arith, common_steps)

pub returns-clause-desk : goal.returns-clause-desk
returns-clause-desk g c = grind (arith, common_steps)

pub returns-clause-token : goal.returns-clause-token
returns-clause-token g c = grind (arith, common_steps)
