use Rattle.scenario.proofs.Distinct.{says-one, text-one}
use Rattle.scenario.proofs.Written.{shown-says}
use Rattle.scenario.proofs.laws.a_text_is_of_one_tree.Goals as goal

pub returns-clause-value : goal.returns-clause-value
returns-clause-value c = says-one

pub returns-clause-text : goal.returns-clause-text
returns-clause-text c = text-one

pub returns-clause-written : goal.returns-clause-written
returns-clause-written c = shown-says
