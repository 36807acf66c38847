use Rattle.floor.proofs.Calling.{received, was_refused}
use Rattle.floor.proofs.floors.Floor.turn.Goals as goal

pub returns-clause-ok : goal.returns-clause-ok
returns-clause-ok g c = received _ _ _ _ _ _ _ c.turn.ensures.ok

pub returns-clause-err : goal.returns-clause-err
returns-clause-err g c = was_refused _ _ _ _ _ _ _ c.turn.ensures.err
