use Rattle.rows.proofs.Fronts.{only_one}
use Rattle.rows.proofs.laws.only_one_is_found.Goals as goal

pub returns : goal.returns
returns c = only_one
