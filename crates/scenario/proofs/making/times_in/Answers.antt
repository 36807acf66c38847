use Rattle.std.proofs.Common.{arith}
use Rattle.std.proofs.lemmas.Grind.{common_steps}
use Rattle.scenario.proofs.making.times_in.Goals as goal

pub returns-in_err-clone : goal.returns-in_err-clone
returns-in_err-clone g c = grind (arith, common_steps)

pub returns-in_err-new : goal.returns-in_err-new
returns-in_err-new g c = grind (arith, common_steps)

pub returns : goal.returns
returns g c = grind (arith, common_steps)
