use Rattle.std.proofs.Common.{arith}
use Rattle.std.proofs.lemmas.Grind.{common_steps}
use Rattle.cursors.proofs.part.Part.move_to.Goals as goal

pub returns-in-Fresh-clause-place : goal.returns-in-Fresh-clause-place
returns-in-Fresh-clause-place g c = grind (arith, common_steps)

pub returns-in-Fresh-clause-parts : goal.returns-in-Fresh-clause-parts
returns-in-Fresh-clause-parts g c = grind (arith, common_steps)
