use Rattle.std.proofs.Common.{arith}
use Rattle.std.proofs.lemmas.Grind.{common_steps}
use Rattle.desk.proofs.Seating.{opens}
use Rattle.desk.proofs.desks.open_all.Goals as goal

pub returns-in_err-desk : goal.returns-in_err-desk
returns-in_err-desk g c = grind (arith, common_steps)

pub returns-in_err-row : goal.returns-in_err-row
returns-in_err-row g c = grind (arith, common_steps)

pub returns : goal.returns
returns g c = grind (arith, common_steps, opens)
