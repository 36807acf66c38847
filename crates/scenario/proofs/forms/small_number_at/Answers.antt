use Rattle.std.proofs.Common.{arith}
use Rattle.std.proofs.lemmas.Grind.{common_steps}
use Rattle.scenario.proofs.forms.small_number_at.Goals as goal

pub returns-in_err-get : goal.returns-in_err-get
returns-in_err-get c = grind (arith, common_steps)

pub returns-in_err-as_u64 : goal.returns-in_err-as_u64
returns-in_err-as_u64 c = grind (arith, common_steps)

pub returns : goal.returns
returns c = grind (arith, common_steps)
