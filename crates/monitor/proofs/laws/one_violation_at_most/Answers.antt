use Rattle.monitor.proofs.Findings.{violation-one}
use Rattle.monitor.proofs.laws.one_violation_at_most.Goals as goal

pub returns : goal.returns
returns c = violation-one
