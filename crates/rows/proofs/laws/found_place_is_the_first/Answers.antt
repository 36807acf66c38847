use Rattle.rows.proofs.Fronts.{is_first}
use Rattle.rows.proofs.laws.found_place_is_the_first.Goals as goal

pub returns : goal.returns
returns c = is_first
