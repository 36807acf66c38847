use Rattle.std.proofs.Common.{arith}
use Rattle.std.proofs.lemmas.Grind.{common_steps}
use Rattle.tables.proofs.overrides.written.texts_at.Goals as goal

pub returns-in_err-get-clause-texts : goal.returns-in_err-get-clause-texts
returns-in_err-get-clause-texts c = grind (arith, common_steps)

pub returns-in_err-get-clause-few : goal.returns-in_err-get-clause-few
returns-in_err-get-clause-few c = grind (arith, common_steps)

pub returns-in_err-as_array-clause-texts : goal.returns-in_err-as_array-clause-texts
returns-in_err-as_array-clause-texts c = grind (arith, common_steps)

pub returns-in_err-as_array-clause-few : goal.returns-in_err-as_array-clause-few
returns-in_err-as_array-clause-few c = grind (arith, common_steps)

pub returns-then-texts-gt8-clause-few : goal.returns-then-texts-gt8-clause-few
returns-then-texts-gt8-clause-few c = grind (arith, common_steps)

pub returns-clause-few : goal.returns-clause-few
returns-clause-few c = grind (arith, common_steps)
