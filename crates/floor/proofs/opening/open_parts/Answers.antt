use Rattle.std.proofs.Common.{arith}
use Rattle.std.proofs.lemmas.Grind.{common_steps}
use Rattle.floor.proofs.opening.open_parts.Goals as goal

pub returns : goal.returns
returns c = record {
  starts = record {
    shape = grind (arith, common_steps);
    tables = grind (arith, common_steps);
    opening = grind (arith, common_steps);
    state = grind (arith, common_steps);
  };
  seen = grind (arith, common_steps);
  opens = grind (arith, common_steps);
}
