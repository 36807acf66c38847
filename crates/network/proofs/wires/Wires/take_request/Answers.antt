use Rattle.std.proofs.Common.{ap, arith, map, ◌∙◌}
use Rattle.std.proofs.lemmas.Grind.{common_steps}
use Rattle.network.specs.inner.Links.{marks_in, messages_in}
use Rattle.network.proofs.Counted.{none-taken}
use Rattle.network.proofs.Marked.{map-remove}
use Rattle.network.proofs.Waits.{if_none-to, on_some}
use Rattle.network.proofs.wires.Wires.take_request.Goals as goal

pub returns-clause-left : goal.returns-clause-left
returns-clause-left c =
    let here = c.self.inside.requests.sent in
    let left = ap messages_in c.take.ensures.left ∙ map-remove (λ m. m.message) here c.args.index in
    let left_marks = ap marks_in c.take.ensures.left ∙ map-remove (λ m. m.held) here c.args.index in
    let stayed = none-taken c.take.result here _ c.args.index c.take.ensures.taken c.take.ensures.left in
    record {
      some = rw (← c.self.view_is) (on_some c.take.result (λ i. record {
        requests = left i;
        links = map messages_in c.self.inside.links.sent;
        responses = messages_in c.self.inside.responses.sent;
      }));
      some_marks = rw (← c.self.view_is) (on_some c.take.result (λ i. record {
        requests = left_marks i;
        links = map marks_in c.self.inside.links.sent;
        responses = marks_in c.self.inside.responses.sent;
      }));
      none = rw (← c.self.view_is) (if_none-to c.take.result (λ same. λ i. record {
        requests = ap messages_in same i;
        links = map messages_in c.self.inside.links.sent;
        responses = messages_in c.self.inside.responses.sent;
      }) stayed);
      none_marks = rw (← c.self.view_is) (if_none-to c.take.result (λ same. λ i. record {
        requests = ap marks_in same i;
        links = map marks_in c.self.inside.links.sent;
        responses = marks_in c.self.inside.responses.sent;
      }) stayed);
      room = grind (arith, common_steps);
    }
