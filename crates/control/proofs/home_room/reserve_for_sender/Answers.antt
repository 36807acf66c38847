use Rattle.std.proofs.Common.{arith, sym, ◌∙◌}
use Rattle.std.proofs.lemmas.Grind.{common_steps}
use Rattle.control.proofs.Reaching.{room-on_sender}
use Rattle.control.proofs.home_room.reserve_for_sender.Goals as goal

pub returns-then-not-reached : goal.returns-then-not-reached
returns-then-not-reached c = record {
  traffic = grind (arith, common_steps);
  marks = grind (arith, common_steps);
  ok = room-on_sender c.args.from c.args.actions.now c.args.home.now c.args.wires.now.room (sym c.requires.reached ∙ c.if-not-reached.true);
  succeeds = grind (arith, common_steps);
  room = record { requests = omega arith; links = λ k. omega arith; responses = omega arith };
}
