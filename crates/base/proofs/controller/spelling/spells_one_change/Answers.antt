use Rattle.base.proofs.Spelled.{change-one, same-name}
use Rattle.base.proofs.controller.spelling.spells_one_change.Goals as goal

pub returns : goal.returns
returns g c =
    change-one g.S.Listed.spelling g.E.Listed.spelling g.A.Listed.spelling
    (same-name g.S.Listed.kind g.S.Listed.spelling g.met.S.Listed.found)
    (same-name g.E.Listed.kind g.E.Listed.spelling g.met.E.Listed.found)
    (same-name g.A.Listed.kind g.A.Listed.spelling g.met.A.Listed.found)
