use Rattle.std.proofs.Common.{arith}
use Rattle.std.proofs.lemmas.Grind.{common_steps}
use Rattle.cursors.proofs.part.looking.offers_behind.Goals as goal

pub returns-then-turns-eq0-clause-ok : goal.returns-then-turns-eq0-clause-ok
returns-then-turns-eq0-clause-ok g c = grind (arith, common_steps)

pub returns-then-turns-eq0-clause-front : goal.returns-then-turns-eq0-clause-front
returns-then-turns-eq0-clause-front g c = grind (arith, common_steps)

pub returns-in-Nothing-clause-ok : goal.returns-in-Nothing-clause-ok
returns-in-Nothing-clause-ok g c = grind (arith, common_steps)

pub returns-in-Nothing-clause-front : goal.returns-in-Nothing-clause-front
returns-in-Nothing-clause-front g c = grind (arith, common_steps)

pub returns-in-Whole-clause-ok : goal.returns-in-Whole-clause-ok
returns-in-Whole-clause-ok g c = grind (arith, common_steps)

pub returns-in-Whole-clause-front : goal.returns-in-Whole-clause-front
returns-in-Whole-clause-front g c = grind (arith, common_steps)

pub returns-in-InSeq-clause-ok : goal.returns-in-InSeq-clause-ok
returns-in-InSeq-clause-ok g c = grind (arith, common_steps)

pub returns-in-InSeq-clause-front : goal.returns-in-InSeq-clause-front
returns-in-InSeq-clause-front g c = grind (arith, common_steps)

pub returns-else-turns-eq0-clause-ok : goal.returns-else-turns-eq0-clause-ok
returns-else-turns-eq0-clause-ok g c = grind (arith, common_steps)

pub returns-else-turns-eq0-clause-front : goal.returns-else-turns-eq0-clause-front
returns-else-turns-eq0-clause-front g c = grind (arith, common_steps)
