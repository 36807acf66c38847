use Rattle.std.proofs.Common.{rules, arith}
use Rattle.std.proofs.lemmas.Grind.{common_steps}
use Rattle.desk.proofs.seats.DeskSeat.refusal.Goals as goal

pub deref-requires : goal.deref-requires
deref-requires g c κs = search rules

pub get-requires : goal.get-requires
get-requires g c κs = search rules

pub returns-in-Some-Claimed : goal.returns-in-Some-Claimed
returns-in-Some-Claimed g c = grind (arith, common_steps)

pub returns-in-Some-Posted : goal.returns-in-Some-Posted
returns-in-Some-Posted g c = grind (arith, common_steps)

pub returns-in-Some-Free : goal.returns-in-Some-Free
returns-in-Some-Free g c = grind (arith, common_steps)

pub returns-in-Some-Free-2 : goal.returns-in-Some-Free-2
returns-in-Some-Free-2 g c = grind (arith, common_steps)
