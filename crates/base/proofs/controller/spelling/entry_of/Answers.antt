use Rattle.std.proofs.Common.{arith}
use Rattle.base.proofs.Lines.{not_one}
use Rattle.base.proofs.controller.spelling.entry_of.Goals as goal

pub returns-in_default-clause-fits : goal.returns-in_default-clause-fits
returns-in_default-clause-fits g c = grind (arith, not_one)

pub returns-in_default-clause-entry : goal.returns-in_default-clause-entry
returns-in_default-clause-entry g c = grind (arith, not_one)

pub as_slice-requires : goal.as_slice-requires
as_slice-requires g c = grind (arith, not_one)
