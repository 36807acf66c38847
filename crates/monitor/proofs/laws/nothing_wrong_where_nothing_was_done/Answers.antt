use Rattle.monitor.proofs.Findings.{none-otherwise}
use Rattle.monitor.proofs.laws.nothing_wrong_where_nothing_was_done.Goals as goal

pub returns : goal.returns
returns c = none-otherwise
