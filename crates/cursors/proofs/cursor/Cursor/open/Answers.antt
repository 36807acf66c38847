use Rattle.cursors.specs.Stock.{room}
use Rattle.scenario.specs.Tree.{plain}
use Rattle.cursors.proofs.Stock.{within-same}
use Rattle.cursors.proofs.cursor.Cursor.open.Goals as goal

pub returns-clause-fits : goal.returns-clause-fits
returns-clause-fits g c = record { held = tt; wanted = within-same (room (plain c.args.tree.now)) }
