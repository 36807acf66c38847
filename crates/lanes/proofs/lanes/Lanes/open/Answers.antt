use Rattle.scenario.specs.Tree.{plain}
use Rattle.lanes.proofs.Opening.{none-noted, opened-lanes}
use Rattle.lanes.proofs.lanes.Lanes.open.Goals as goal

pub list_all-requires : goal.list_all-requires
list_all-requires g c =
    none-noted (plain c.args.scenario.now) c.args.world.now.tables c.args.world.now.state c.in_ok-lanes.lanes c.in_ok-lanes.ensures.unlisted

pub returns-clause-opened : goal.returns-clause-opened
returns-clause-opened g c =
    opened-lanes (plain c.args.scenario.now) c.args.world.now c.args.cores.now c.in_ok-lanes.lanes c.list_all.new.self c.note_marks.new.self
    c.in_ok-lanes.ensures.unlisted c.in_ok-list_all.ensures.lists c.list_all.ensures.source c.in_ok-note_marks.ensures
