use Rattle.cursors.proofs.Stock.{fit-held, fit-used, used-few}
use Rattle.cursors.proofs.laws.cursors_stay_small.Goals as goal

pub returns-clause-held : goal.returns-clause-held
returns-clause-held g c = fit-held

pub returns-clause-used : goal.returns-clause-used
returns-clause-used g c = fit-used

pub returns-clause-most : goal.returns-clause-most
returns-clause-most g c = used-few
