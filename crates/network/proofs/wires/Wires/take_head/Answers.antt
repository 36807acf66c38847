use Rattle.std.proofs.Common.{[], ap, arith, get_or, map, remove, ◌∙◌}
use Rattle.std.proofs.lemmas.Grind.{common_steps}
use Rattle.network.specs.inner.Links.{marks_in, messages_in}
use Rattle.network.proofs.Marked.{map-remove}
use Rattle.network.proofs.Parts.{link-set, marks-at, messages-at}
use Rattle.network.proofs.Waits.{on_some}
use Rattle.network.proofs.wires.Wires.take_head.Goals as goal

pub returns-clause-left : goal.returns-clause-left
returns-clause-left c =
    let ls = c.self.inside.links.sent in
    let cache = c.args.cache.0 in
    record {
      some =
          rw (← c.self.view_is)
          (on_some c.take_head.result (λ i. record {
            requests = messages_in c.self.inside.requests.sent;
            links = (ap (map messages_in) c.take_head.ensures.left ∙ link-set messages_in ls cache _ _
                (map-remove (λ m. m.message) (get_or ls cache []) 0 ∙ ap (λ ms. remove ms 0) (messages-at ls cache))) i;
            responses = messages_in c.self.inside.responses.sent;
          }));
      some_marks =
          rw (← c.self.view_is)
          (on_some c.take_head.result (λ i. record {
            requests = marks_in c.self.inside.requests.sent;
            links = (ap (map marks_in) c.take_head.ensures.left ∙ link-set marks_in ls cache _ _
                (map-remove (λ m. m.held) (get_or ls cache []) 0 ∙ ap (λ ms. remove ms 0) (marks-at ls cache))) i;
            responses = marks_in c.self.inside.responses.sent;
          }));
      none = grind (arith, common_steps);
      none_marks = grind (arith, common_steps);
      room = grind (arith, common_steps);
    }
