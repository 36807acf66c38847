use Rattle.scenario.proofs.Reached.{nothing-in, nothing-out, ask-in, ask-out}
use Rattle.scenario.proofs.laws.offers_reach_the_words.Goals as goal

pub returns-clause-end : goal.returns-clause-end
returns-clause-end c t = (nothing-out t, nothing-in t)

pub returns-clause-ask : goal.returns-clause-ask
returns-clause-ask c t ask others = (ask-out t ask others, λ there. ask-in t there.0 ask others there.1 there.2)
