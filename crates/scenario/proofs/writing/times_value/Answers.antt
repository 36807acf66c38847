use Rattle.std.proofs.Common.{arith}
use Rattle.std.proofs.lemmas.Grind.{common_steps}
use Rattle.scenario.proofs.writing.times_value.Goals as goal

pub returns-in-Err-json : goal.returns-in-Err-json
returns-in-Err-json c = grind (arith, common_steps)

pub returns-in-Err-json-2 : goal.returns-in-Err-json-2
returns-in-Err-json-2 c = grind (arith, common_steps)

pub returns-in-Err-json-3 : goal.returns-in-Err-json-3
returns-in-Err-json-3 c = grind (arith, common_steps)

pub returns-in-Err-json-4 : goal.returns-in-Err-json-4
returns-in-Err-json-4 c = grind (arith, common_steps)
