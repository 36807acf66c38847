use Rattle.std.proofs.Common.{arith}
use Rattle.std.proofs.lemmas.Grind.{common_steps}
use Rattle.certify.proofs.standings.reason.Goals as goal

pub returns-then-is_same : goal.returns-then-is_same
returns-then-is_same g c = grind (arith, common_steps)

pub returns-in_default-Stall : goal.returns-in_default-Stall
returns-in_default-Stall g c = grind (arith, common_steps)

pub returns-in-Blank-default : goal.returns-in-Blank-default
returns-in-Blank-default g c = grind (arith, common_steps)

pub returns-in_default : goal.returns-in_default
returns-in_default g c = grind (arith, common_steps)
