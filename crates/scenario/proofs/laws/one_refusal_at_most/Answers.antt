use Rattle.scenario.proofs.Refusing.{refusal-one}
use Rattle.scenario.proofs.laws.one_refusal_at_most.Goals as goal

pub returns : goal.returns
returns c = refusal-one
