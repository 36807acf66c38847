use Rattle.std.proofs.Common.{arith}
use Rattle.std.proofs.lemmas.Grind.{common_steps}
use Rattle.cursors.proofs.part.repeating.are_asks.Goals as goal

pub returns-then-not-is_ask : goal.returns-then-not-is_ask
returns-then-not-is_ask g c = grind (arith, common_steps)

pub loop-child-preserved : goal.loop-child-preserved
loop-child-preserved g c = grind (arith, common_steps)

pub returns : goal.returns
returns g c = grind (arith, common_steps)
