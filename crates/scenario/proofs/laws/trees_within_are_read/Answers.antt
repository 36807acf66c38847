use Rattle.scenario.proofs.Refusing.{none-within, refused-within, answer-within}
use Rattle.scenario.proofs.laws.trees_within_are_read.Goals as goal

pub returns-clause-value : goal.returns-clause-value
returns-clause-value c = none-within

pub returns-clause-text : goal.returns-clause-text
returns-clause-text c = refused-within

pub returns-clause-answer : goal.returns-clause-answer
returns-clause-answer c = answer-within
