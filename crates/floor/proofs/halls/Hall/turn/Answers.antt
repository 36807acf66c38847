use Rattle.std.proofs.Common.{arith}
use Rattle.std.proofs.lemmas.Grind.{common_steps}
use Rattle.floor.proofs.Calling.{refuses}
use Rattle.floor.proofs.halls.Hall.turn.Goals as goal

pub enter-requires-clause-yours : goal.enter-requires-clause-yours
enter-requires-clause-yours g c = grind (arith, common_steps)

pub enter-requires-clause-room : goal.enter-requires-clause-room
enter-requires-clause-room g c = grind (arith, common_steps)

pub returns-clause-ok : goal.returns-clause-ok
returns-clause-ok g c = c.enter.ensures.ok

pub returns-clause-err : goal.returns-clause-err
returns-clause-err g c =
    refuses g.F.Naming.floor c.args.self.now c.enter.new.self c.args.seat.now c.enter.new.seat c.args.step c.enter.result
    c.enter.ensures.moment (grind (arith, common_steps)) (grind (arith, common_steps)) c.enter.ensures.else_memory c.enter.ensures.err

pub returns-then-not-is_of-clause-err : goal.returns-then-not-is_of-clause-err
returns-then-not-is_of-clause-err g c = record { leaves = c.compare.ensures; reason = grind (arith, common_steps) }

pub returns-then-entries-self-clause-err : goal.returns-then-entries-self-clause-err
returns-then-entries-self-clause-err g c = record {
  leaves = c.compare-then-entries-self.ensures;
  reason = (grind (arith, common_steps), grind (arith, common_steps));
}
