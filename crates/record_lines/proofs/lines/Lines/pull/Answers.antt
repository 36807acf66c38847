use Rattle.std.proofs.Common.{arith}
use Rattle.std.proofs.lemmas.Grind.{common_steps}
use Rattle.record_lines.proofs.lines.Lines.pull.Goals as goal

pub returns-in_err-self-inside-clause-pull : goal.returns-in_err-self-inside-clause-pull
returns-in_err-self-inside-clause-pull g c = grind (arith, common_steps)

pub returns-in_err-self-inside-clause-mark : goal.returns-in_err-self-inside-clause-mark
returns-in_err-self-inside-clause-mark g c = grind (arith, common_steps)

pub returns-clause-pull : goal.returns-clause-pull
returns-clause-pull g c = record {
  bytes = grind (arith, common_steps);
  some_if = grind (arith, common_steps);
  at_end = grind (arith, common_steps);
  few = grind (arith, common_steps);
  line = grind (arith, common_steps);
  number = grind (arith, common_steps);
}

pub returns-clause-mark : goal.returns-clause-mark
returns-clause-mark g c = grind (arith, common_steps)
