use Rattle.scenario.proofs.Places.{among}
use Rattle.scenario.proofs.seeking.place_among.Goals as goal

pub returns-clause-place : goal.returns-clause-place
returns-clause-place g c = among c.args.children.now c.args.at c.in-Ok.offer.child c.in-Ok.offer.at c.in-Ok.ensures.ok
