use Rattle.monitor.proofs.Looking.{crowded-none, crowded-some}
use Rattle.monitor.proofs.finding.crowded_writer.Goals as goal

pub returns-clause-some : goal.returns-clause-some
returns-clause-some c = crowded-some c.args.world.now.state c.args.block.0 c.crowded_writer.result c.crowded_writer.ensures.some

pub returns-clause-none : goal.returns-clause-none
returns-clause-none c = crowded-none c.args.world.now.state c.args.block.0 c.crowded_writer.result c.crowded_writer.ensures.none
