use Rattle.std.proofs.Common.{arith, Some}
use Rattle.std.proofs.lemmas.Grind.{common_steps}
use Rattle.control.specs.HomeEffect.{value_in}
use Rattle.control.proofs.HomeCounts.{nothing-sent, room-to-send, room-to-reply}
use Rattle.control.proofs.home_room.home_reserve.Goals as goal

pub returns-in-Data : goal.returns-in-Data
returns-in-Data c = record {
  traffic = grind (arith, common_steps);
  marks = grind (arith, common_steps);
  ok =
      rw (c.in-Data.is, nothing-sent (Some c.in-Data.field-0) c.args.actions c.args.home.now)
      (record { requests = omega arith; links = λ k. omega arith; responses = omega arith });
  succeeds = grind (arith, common_steps);
  room = record { requests = omega arith; links = λ k. omega arith; responses = omega arith };
}

pub returns-in_default : goal.returns-in_default
returns-in_default c = record {
  traffic = c.reserve_for.ensures.traffic;
  marks = c.reserve_for.ensures.marks;
  ok =
      rw c.in-Request.is
      (room-to-send c.in-Request.request.from (value_in c.in-Request.request.kind) c.args.actions c.args.home.now c.reserve_for.new.wires.room
      (rw c.as_slice.ensures.actions at c.in_default.ensures.ok));
  succeeds = grind (arith, common_steps);
  room = c.reserve_for.ensures.room;
}

pub returns-in-Err : goal.returns-in-Err
returns-in-Err c = record {
  traffic = c.reserve_for.ensures.traffic;
  marks = c.reserve_for.ensures.marks;
  ok = grind (arith, common_steps);
  succeeds = λ has.
      c.in-Err.ensures.succeeds
      (rw c.as_slice.ensures.actions
      (room-to-reply c.in-Request.request.from (value_in c.in-Request.request.kind) c.args.actions c.args.home.now c.args.wires.now.room
      (rw c.in-Request.is at has)));
  room = c.reserve_for.ensures.room;
}
