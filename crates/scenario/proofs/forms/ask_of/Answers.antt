use Rattle.std.proofs.Common.{arith}
use Rattle.std.proofs.lemmas.Grind.{common_steps}
use Rattle.scenario.proofs.forms.ask_of.Goals as goal

pub returns-in_err-small_number_at : goal.returns-in_err-small_number_at
returns-in_err-small_number_at c = grind (arith, common_steps)

pub returns-in_err-small_number_at-2 : goal.returns-in_err-small_number_at-2
returns-in_err-small_number_at-2 c = grind (arith, common_steps)

pub returns-in_err-get : goal.returns-in_err-get
returns-in_err-get c = grind (arith, common_steps)

pub returns-in_err-as_str : goal.returns-in_err-as_str
returns-in_err-as_str c = grind (arith, common_steps)

pub returns-in_err-ask : goal.returns-in_err-ask
returns-in_err-ask c = grind (arith, common_steps)

pub returns : goal.returns
returns c = grind (arith, common_steps)
