use Rattle.std.proofs.Common.{arith}
use Rattle.std.proofs.lemmas.Grind.{common_steps}
use Rattle.scenario.proofs.Children.{children}
use Rattle.cursors.proofs.part.repeating.is_choice.Goals as goal

pub returns-in-Any : goal.returns-in-Any
returns-in-Any g c = grind (arith, common_steps, children)

pub returns-in-One : goal.returns-in-One
returns-in-One g c = grind (arith, common_steps, children)

pub returns-in-Seq : goal.returns-in-Seq
returns-in-Seq g c = grind (arith, common_steps, children)

pub returns-in-Seq-2 : goal.returns-in-Seq-2
returns-in-Seq-2 g c = grind (arith, common_steps, children)

pub returns-in-Seq-3 : goal.returns-in-Seq-3
returns-in-Seq-3 g c = grind (arith, common_steps, children)
