use Rattle.std.proofs.Common.{rules, arith}
use Rattle.std.proofs.lemmas.Grind.{common_steps}
use Rattle.desk.proofs.seats.DeskSeat.has_posted.Goals as goal

pub deref-requires : goal.deref-requires
deref-requires g c κs = search rules

pub get-requires : goal.get-requires
get-requires g c κs = search rules

pub returns-in-Some-Posted : goal.returns-in-Some-Posted
returns-in-Some-Posted g c = grind (arith, common_steps)

pub returns-in_default : goal.returns-in_default
returns-in_default g c = grind (arith, common_steps)

pub returns-in_default-2 : goal.returns-in_default-2
returns-in_default-2 g c = grind (arith, common_steps)
