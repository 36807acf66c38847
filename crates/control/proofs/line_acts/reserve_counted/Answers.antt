use Rattle.std.proofs.Common.{arith}
use Rattle.std.proofs.lemmas.Grind.{common_steps}
use Rattle.control.specs.LineEffect.{taken_in, requestor_of}
use Rattle.control.proofs.LineSends.{forwards-by}
use Rattle.control.proofs.line_acts.reserve_counted.Goals as goal

pub returns : goal.returns
returns c = record {
  traffic = c.reserve_ends.ensures.traffic;
  marks = c.reserve_ends.ensures.marks;
  ok = λ cache line. record {
    requests = omega (arith, c.line_needs-needs.ensures.requests cache line, c.in_ok-reserve_ends.ensures.ok.0);
    links = λ k. omega (arith, forwards-by k cache (taken_in c.args.input line).value (requestor_of c.args.input) c.args.actions);
    responses = omega (arith, c.line_needs-needs.ensures.responses cache line, c.in_ok-reserve_ends.ensures.ok.1);
  };
  succeeds = grind (arith, common_steps);
  room = c.reserve_ends.ensures.room;
}
