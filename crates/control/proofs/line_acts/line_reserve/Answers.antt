use Rattle.std.proofs.Common.{arith}
use Rattle.std.proofs.lemmas.Grind.{common_steps}
use Rattle.control.specs.LineEffect.{taken_in, requestor_of}
use Rattle.control.proofs.LineSends.{forwards-by, requests-by, requests-few, responses-by, responses-few}
use Rattle.control.proofs.line_acts.line_reserve.Goals as goal

pub returns-then-ends_have_room : goal.returns-then-ends_have_room
returns-then-ends_have_room c = record {
  traffic = grind (arith, common_steps);
  marks = grind (arith, common_steps);
  ok = λ cache line.
      let value = (taken_in c.args.input line).value in
      let to = requestor_of c.args.input in
      record {
        requests = omega (
          arith,
          requests-by cache value to c.args.actions,
          requests-few c.args.actions,
          c.len.ensures.count,
          c.ends_have_room.ensures.requests c.if-ends_have_room.true,
        );
        links = λ k. omega (arith, forwards-by k cache value to c.args.actions);
        responses = omega (
          arith,
          responses-by cache value to c.args.actions,
          responses-few to c.args.actions,
          c.len.ensures.count,
          c.ends_have_room.ensures.responses c.if-ends_have_room.true,
        );
      };
  succeeds = grind (arith, common_steps);
  room = record { requests = omega arith; links = λ k. omega arith; responses = omega arith };
}
