use Rattle.scenario.proofs.Alikes.{alike-offers, alike-ends, alike-left}
use Rattle.scenario.proofs.laws.alike_trees_stay_alike.Goals as goal

pub returns-clause-offers : goal.returns-clause-offers
returns-clause-offers c = alike-offers

pub returns-clause-ends : goal.returns-clause-ends
returns-clause-ends c = alike-ends

pub returns-clause-left : goal.returns-clause-left
returns-clause-left c = alike-left
