use Rattle.std.proofs.Common.{arith}
use Rattle.std.proofs.lemmas.Grind.{common_steps}
use Rattle.desk.proofs.desks.Desk.new.Goals as goal

pub open_all-requires-clause-within : goal.open_all-requires-clause-within
open_all-requires-clause-within g c = grind (arith, common_steps)

pub returns-then-n-gt-MOST_TRIALS-clause-made : goal.returns-then-n-gt-MOST_TRIALS-clause-made
returns-then-n-gt-MOST_TRIALS-clause-made g c = grind (arith, common_steps)

pub returns-then-n-gt-MOST_TRIALS-clause-refused : goal.returns-then-n-gt-MOST_TRIALS-clause-refused
returns-then-n-gt-MOST_TRIALS-clause-refused g c = grind (arith, common_steps)

pub returns-then-seats-eq0-clause-made : goal.returns-then-seats-eq0-clause-made
returns-then-seats-eq0-clause-made g c = grind (arith, common_steps)

pub returns-then-seats-eq0-clause-refused : goal.returns-then-seats-eq0-clause-refused
returns-then-seats-eq0-clause-refused g c = grind (arith, common_steps)

pub returns-then-seats-gt-MOST_SEATS-clause-made : goal.returns-then-seats-gt-MOST_SEATS-clause-made
returns-then-seats-gt-MOST_SEATS-clause-made g c = grind (arith, common_steps)

pub returns-then-seats-gt-MOST_SEATS-clause-refused : goal.returns-then-seats-gt-MOST_SEATS-clause-refused
returns-then-seats-gt-MOST_SEATS-clause-refused g c = grind (arith, common_steps)

pub returns-in-Ok-clause-made : goal.returns-in-Ok-clause-made
returns-in-Ok-clause-made g c = grind (arith, common_steps)

pub returns-in-Ok-clause-refused : goal.returns-in-Ok-clause-refused
returns-in-Ok-clause-refused g c = grind (arith, common_steps)

pub returns-in-Err-clause-made : goal.returns-in-Err-clause-made
returns-in-Err-clause-made g c = grind (arith, common_steps)

pub returns-in-Err-clause-refused : goal.returns-in-Err-clause-refused
returns-in-Err-clause-refused g c = grind (arith, common_steps)
