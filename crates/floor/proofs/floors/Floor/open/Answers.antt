use Rattle.std.proofs.Common.{arith}
use Rattle.std.proofs.lemmas.Grind.{common_steps}
use Rattle.floor.proofs.floors.Floor.open.Goals as goal

pub returns-then-seats-eq0-clause-size : goal.returns-then-seats-eq0-clause-size
returns-then-seats-eq0-clause-size g c = grind (arith, common_steps)

pub returns-in-Ok-clause-size : goal.returns-in-Ok-clause-size
returns-in-Ok-clause-size g c = ((grind (arith, common_steps), grind (arith, common_steps)), grind (arith, common_steps))

pub returns-in-Ok-clause-seats : goal.returns-in-Ok-clause-seats
returns-in-Ok-clause-seats g c = grind (arith, common_steps)

pub returns-in-Err-clause-size : goal.returns-in-Err-clause-size
returns-in-Err-clause-size g c = ((grind (arith, common_steps), grind (arith, common_steps)), grind (arith, common_steps))
