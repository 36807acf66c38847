use Rattle.floor.proofs.Calling.{received_any, was_draw_refused}
use Rattle.floor.proofs.floors.Floor.turn_any.Goals as goal

pub returns-clause-ok : goal.returns-clause-ok
returns-clause-ok g c = received_any _ _ _ _ _ _ _ c.turn_any.ensures.ok

pub returns-clause-err : goal.returns-clause-err
returns-clause-err g c = was_draw_refused _ _ _ _ _ _ c.turn_any.ensures.err
