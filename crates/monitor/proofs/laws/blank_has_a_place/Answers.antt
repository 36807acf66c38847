use Rattle.monitor.proofs.Blanks.{next-blank}
use Rattle.monitor.proofs.laws.blank_has_a_place.Goals as goal

pub returns : goal.returns
returns c = next-blank
