use Rattle.std.proofs.Common.{arith}
use Rattle.std.proofs.lemmas.Grind.{common_steps}
use Rattle.std.proofs.lemmas.Result.{on_ok_weaker}
use Rattle.control.proofs.HomeCounts.{room-on_links}
use Rattle.control.proofs.home_room.reserve_for.Goals as goal

pub returns : goal.returns
returns c = record {
  traffic = grind (arith, common_steps);
  marks = grind (arith, common_steps);
  ok =
      on_ok_weaker c.reserve_for_sharers.result
      (λ sharers. record {
        responses = omega (
          arith,
          c.reach_of-reach.ensures.replies,
          c.in_ok-reserve_ends.ensures.ok,
          c.reserve_for_sender.ensures.room.responses,
          c.reserve_for_owner.ensures.room.responses,
          c.reserve_for_sharers.ensures.room.responses,
        );
        links = λ k. room-on_links k c.args.from c.args.actions.now c.args.home.now c.reserve_for_sharers.new.wires.room
            (omega (
              arith,
              c.in_ok-reserve_for_sender.ensures.ok,
              c.reserve_for_owner.ensures.room.links c.args.from.0,
              c.reserve_for_sharers.ensures.room.links c.args.from.0,
            ))
            (λ k owner ne. omega (arith, c.in_ok-reserve_for_owner.ensures.ok k owner ne, c.reserve_for_sharers.ensures.room.links k)) sharers;
      })
      c.reserve_for_sharers.ensures.ok;
  succeeds = grind (arith, common_steps);
  room = grind (arith, common_steps);
}
