use Rattle.lanes.proofs.Fitting.{lanes-small}
use Rattle.lanes.proofs.laws.lanes_stay_small.Goals as goal

pub returns : goal.returns
returns c = lanes-small
