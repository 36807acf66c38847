use Rattle.std.proofs.Common.{arith}
use Rattle.std.proofs.lemmas.Grind.{common_steps}
use Rattle.floor.proofs.crews.crew.Goals as goal

pub returns-in_default-clause-back : goal.returns-in_default-clause-back
returns-in_default-clause-back g c = grind (arith, common_steps)

pub returns-in_default-clause-refused : goal.returns-in_default-clause-refused
returns-in_default-clause-refused g c = grind (arith, common_steps)

pub returns-in_default-flags_for-clause-back : goal.returns-in_default-flags_for-clause-back
returns-in_default-flags_for-clause-back g c = grind (arith, common_steps)

pub returns-in_default-flags_for-clause-refused : goal.returns-in_default-flags_for-clause-refused
returns-in_default-flags_for-clause-refused g c = grind (arith, common_steps)

pub returns-clause-back : goal.returns-clause-back
returns-clause-back g c = grind (arith, common_steps)

pub returns-clause-refused : goal.returns-clause-refused
returns-clause-refused g c = grind (arith, common_steps)
