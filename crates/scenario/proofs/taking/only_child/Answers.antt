use Rattle.std.proofs.Common.{rules}
use Rattle.scenario.proofs.Places.{row_of_others}
use Rattle.scenario.proofs.taking.only_child.Goals as goal

pub returns-else-len-eq1-clause-row : goal.returns-else-len-eq1-clause-row
returns-else-len-eq1-clause-row g c = row_of_others c.args.children.now.items (search rules)
