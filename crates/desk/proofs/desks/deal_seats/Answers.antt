use Rattle.std.proofs.Common.{arith}
use Rattle.std.proofs.lemmas.Grind.{common_steps}
use Rattle.desk.proofs.desks.deal_seats.Goals as goal

pub returns-in_err-row : goal.returns-in_err-row
returns-in_err-row g c = grind (arith, common_steps)

pub loop-init : goal.loop-init
loop-init g c = grind (arith, common_steps)

pub deal_part-part-requires : goal.deal_part-part-requires
deal_part-part-requires g c = record {
  of_word = record { table = grind (arith, common_steps); one = c.desk.invariant.one; free = grind (arith, common_steps) };
  unused = grind (arith, common_steps);
  some = grind (arith, common_steps);
}

pub returns-in_err-make_seat : goal.returns-in_err-make_seat
returns-in_err-make_seat g c = grind (arith, common_steps)

pub loop-smaller : goal.loop-smaller
loop-smaller g c = grind (arith, common_steps)

pub loop-preserved : goal.loop-preserved
loop-preserved g c = grind (arith, common_steps)

pub returns : goal.returns
returns g c = grind (arith, common_steps)
