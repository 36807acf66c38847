use Rattle.std.proofs.Common.{arith}
use Rattle.std.proofs.lemmas.Grind.{common_steps}
use Rattle.scenario.proofs.forms.turns_of.Goals as goal

pub returns-then-not-has_keys : goal.returns-then-not-has_keys
returns-then-not-has_keys c = grind (arith, common_steps)

pub returns-in_err-small_number_at : goal.returns-in_err-small_number_at
returns-in_err-small_number_at c = grind (arith, common_steps)

pub returns-in_err-get : goal.returns-in_err-get
returns-in_err-get c = grind (arith, common_steps)

pub returns : goal.returns
returns c = grind (arith, common_steps)
