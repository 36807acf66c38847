use Rattle.std.proofs.Common.{arith}
use Rattle.std.proofs.lemmas.Grind.{common_steps}
use Rattle.scenario.proofs.forms.form_of.Goals as goal

pub returns-in-Some : goal.returns-in-Some
returns-in-Some c = grind (arith, common_steps)

pub returns-in-Some-list_of : goal.returns-in-Some-list_of
returns-in-Some-list_of c = grind (arith, common_steps)

pub returns-in-Some-list_of-2 : goal.returns-in-Some-list_of-2
returns-in-Some-list_of-2 c = grind (arith, common_steps)

pub returns-in-Some-list_of-3 : goal.returns-in-Some-list_of-3
returns-in-Some-list_of-3 c = grind (arith, common_steps)

pub returns : goal.returns
returns c = grind (arith, common_steps)
