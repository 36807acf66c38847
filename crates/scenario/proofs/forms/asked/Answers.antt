use Rattle.std.proofs.Common.{arith}
use Rattle.std.proofs.lemmas.Grind.{common_steps}
use Rattle.scenario.proofs.forms.asked.Goals as goal

pub returns-in_err-number_at-in-store : goal.returns-in_err-number_at-in-store
returns-in_err-number_at-in-store c = grind (arith, common_steps)

pub returns-in-load : goal.returns-in-load
returns-in-load c = grind (arith, common_steps)

pub returns-in-replace : goal.returns-in-replace
returns-in-replace c = grind (arith, common_steps)

pub returns-in_ok-number_at-in-store : goal.returns-in_ok-number_at-in-store
returns-in_ok-number_at-in-store c = grind (arith, common_steps)

pub returns-in_default : goal.returns-in_default
returns-in_default c = grind (arith, common_steps)

pub returns-in_default-2 : goal.returns-in_default-2
returns-in_default-2 c = grind (arith, common_steps)

pub returns-in_default-3 : goal.returns-in_default-3
returns-in_default-3 c = grind (arith, common_steps)
