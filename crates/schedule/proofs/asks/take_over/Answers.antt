use Rattle.std.proofs.Common.{arith}
use Rattle.std.proofs.lemmas.Grind.{common_steps}
use Rattle.schedule.proofs.asks.take_over.Goals as goal

pub returns-in_default-clause-asks : goal.returns-in_default-clause-asks
returns-in_default-clause-asks c = grind (arith, common_steps)

pub returns-in_default-clause-short : goal.returns-in_default-clause-short
returns-in_default-clause-short c = grind (arith, common_steps)

pub returns-in_default-clause-marks : goal.returns-in_default-clause-marks
returns-in_default-clause-marks c = grind (arith, common_steps)

pub returns-in_default-clause-err : goal.returns-in_default-clause-err
returns-in_default-clause-err c = grind (arith, common_steps)

pub returns-in_default-clause-err_marks : goal.returns-in_default-clause-err_marks
returns-in_default-clause-err_marks c = grind (arith, common_steps)

pub returns-in_err-reopen-clause-asks : goal.returns-in_err-reopen-clause-asks
returns-in_err-reopen-clause-asks c = grind (arith, common_steps)

pub returns-in_err-reopen-clause-short : goal.returns-in_err-reopen-clause-short
returns-in_err-reopen-clause-short c = grind (arith, common_steps)

pub returns-in_err-reopen-clause-marks : goal.returns-in_err-reopen-clause-marks
returns-in_err-reopen-clause-marks c = grind (arith, common_steps)

pub returns-in_err-reopen-clause-err : goal.returns-in_err-reopen-clause-err
returns-in_err-reopen-clause-err c = grind (arith, common_steps)

pub returns-in_err-reopen-clause-err_marks : goal.returns-in_err-reopen-clause-err_marks
returns-in_err-reopen-clause-err_marks c = grind (arith, common_steps)

pub returns-clause-asks : goal.returns-clause-asks
returns-clause-asks c = grind (arith, common_steps)

pub returns-clause-short : goal.returns-clause-short
returns-clause-short c = grind (arith, common_steps)

pub returns-clause-marks : goal.returns-clause-marks
returns-clause-marks c = grind (arith, common_steps)

pub returns-clause-err : goal.returns-clause-err
returns-clause-err c = grind (arith, common_steps)

pub returns-clause-err_marks : goal.returns-clause-err_marks
returns-clause-err_marks c = grind (arith, common_steps)
