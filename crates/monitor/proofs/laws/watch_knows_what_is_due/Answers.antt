use Rattle.std.proofs.Common.{ap}
use Rattle.base.specs.Steps.{block_of}
use Rattle.machine.specs.Machine.{after, opened}
use Rattle.monitor.specs.Watching.{made_after, scene_of}
use Rattle.monitor.proofs.Histories.{noted_all-due}
use Rattle.monitor.proofs.laws.watch_knows_what_is_due.Goals as goal

pub returns-clause-due : goal.returns-clause-due
returns-clause-due c = noted_all-due

pub returns-clause-history : goal.returns-clause-history
returns-clause-history c shape tables opening before step =
    ap (scene_of step (made_after shape tables opening before step))
    (noted_all-due opening before (after tables (opened shape opening) before).outcomes (block_of step))
