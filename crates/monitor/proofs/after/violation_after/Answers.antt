use Rattle.monitor.proofs.Last.{answers-last}
use Rattle.monitor.proofs.after.violation_after.Goals as goal

pub returns-clause-history : goal.returns-clause-history
returns-clause-history c = answers-last c.args.world.now c.args.step c.args.made.now.outcome c.find_after.result c.find_after.ensures
