use Rattle.std.proofs.Common.{arith}
use Rattle.std.proofs.lemmas.Grind.{common_steps}
use Rattle.scenario.proofs.Texts.{texts}
use Rattle.scenario.proofs.Failing.{if_ok-failed}
use Rattle.scenario.proofs.writing.text_of.Goals as goal

pub returns-in_err-value_of-clause-text : goal.returns-in_err-value_of-clause-text
returns-in_err-value_of-clause-text g c = if_ok-failed _ _ c.from_residual.ensures.0

pub returns-in_err-value_of-clause-reads_back : goal.returns-in_err-value_of-clause-reads_back
returns-in_err-value_of-clause-reads_back g c = if_ok-failed _ _ c.from_residual.ensures.0

pub returns-clause-text : goal.returns-clause-text
returns-clause-text g c = grind (arith, common_steps, texts)

pub returns-clause-reads_back : goal.returns-clause-reads_back
returns-clause-reads_back g c = grind (arith, common_steps, texts)
