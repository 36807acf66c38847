use Rattle.scenario.proofs.Alikes.{alike-words}
use Rattle.scenario.proofs.laws.alike_trees_have_the_same_words.Goals as goal

pub returns : goal.returns
returns c s t word = alike-words word s t
