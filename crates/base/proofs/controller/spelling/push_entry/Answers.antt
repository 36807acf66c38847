use Rattle.std.proofs.Common.{arith}
use Rattle.std.proofs.lemmas.Grind.{common_steps}
use Rattle.base.proofs.controller.spelling.push_entry.Goals as goal

pub returns-in-Blank-clause-text : goal.returns-in-Blank-clause-text
returns-in-Blank-clause-text g c = grind (arith, common_steps)

pub returns-in-Blank-clause-short : goal.returns-in-Blank-clause-short
returns-in-Blank-clause-short g c = grind (arith, common_steps)

pub returns-in-Blank-clause-fits : goal.returns-in-Blank-clause-fits
returns-in-Blank-clause-fits g c = grind (arith, common_steps)

pub returns-in-Stall-clause-text : goal.returns-in-Stall-clause-text
returns-in-Stall-clause-text g c = grind (arith, common_steps)

pub returns-in-Stall-clause-short : goal.returns-in-Stall-clause-short
returns-in-Stall-clause-short g c = grind (arith, common_steps)

pub returns-in-Stall-clause-fits : goal.returns-in-Stall-clause-fits
returns-in-Stall-clause-fits g c = grind (arith, common_steps)

pub returns-in-Act-clause-text : goal.returns-in-Act-clause-text
returns-in-Act-clause-text g c = grind (arith, common_steps)

pub returns-in-Act-clause-short : goal.returns-in-Act-clause-short
returns-in-Act-clause-short g c = grind (arith, common_steps)

pub returns-in-Act-clause-fits : goal.returns-in-Act-clause-fits
returns-in-Act-clause-fits g c = grind (arith, common_steps)
