use Rattle.base.proofs.Cells.{cell-after_changes}
use Rattle.base.proofs.controller.entry.last_change_holds.Goals as goal

pub returns : goal.returns
returns g c =
    cell-after_changes g.S.Listed.kind g.E.Listed.kind g.S.Listed.place g.E.Listed.place
    (record { states_stand = g.met.S.Listed.stands; events_stand = g.met.E.Listed.stands })
