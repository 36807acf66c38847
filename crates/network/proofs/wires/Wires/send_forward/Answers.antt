use Rattle.std.proofs.Common.{[], ◌∷◌, ◌++◌, ap, arith, false, get_or, map, ◌∙◌}
use Rattle.std.proofs.lemmas.Grind.{common_steps}
use Rattle.std.proofs.lemmas.List.{map-append}
use Rattle.network.specs.inner.Links.{marks_in, messages_in, unmarked_one}
use Rattle.network.proofs.Parts.{link-set, marks-at, messages-at}
use Rattle.network.proofs.Waits.{on_ok-to}
use Rattle.network.proofs.wires.Wires.send_forward.Goals as goal

pub returns : goal.returns
returns c =
    let ls = c.self.inside.links.sent in
    let cache = c.args.cache.0 in
    record {
      ok =
          rw (← c.self.view_is)
          (on_ok-to c.send.result
          (λ sent. λ i. record {
            requests = messages_in c.self.inside.requests.sent;
            links = (ap (map messages_in) sent ∙ link-set messages_in ls cache _ _
                (map-append (λ m. m.message) (get_or ls cache []) (unmarked_one c.args.forward ∷ [])
                ∙ ap (λ ms. ms ++ c.args.forward ∷ []) (messages-at ls cache))) i;
            responses = messages_in c.self.inside.responses.sent;
          }) c.send.ensures.ok);
      ok_marks =
          rw (← c.self.view_is)
          (on_ok-to c.send.result
          (λ sent. λ i. record {
            requests = marks_in c.self.inside.requests.sent;
            links = (ap (map marks_in) sent ∙ link-set marks_in ls cache _ _
                (map-append (λ m. m.held) (get_or ls cache []) (unmarked_one c.args.forward ∷ [])
                ∙ ap (λ ms. ms ++ false ∷ []) (marks-at ls cache))) i;
            responses = marks_in c.self.inside.responses.sent;
          }) c.send.ensures.ok);
      err = grind (arith, common_steps);
      err_marks = grind (arith, common_steps);
      back = c.send.ensures.back;
      succeeds = grind (arith, common_steps);
      room = grind (arith, common_steps);
    }
