use Rattle.std.proofs.Common.{ap, get_or, length, sym, ◌∙◌}
use Rattle.network.proofs.Parts.{as_long, marks-at, messages-at}
use Rattle.network.proofs.wires.Wires.link_count.Goals as goal

pub returns-clause-each : goal.returns-clause-each
returns-clause-each c =
    let ls = c.self.inside.links.sent in
    rw (← c.self.view_is) (λ cache. ap length (sym (marks-at ls cache)) ∙ as_long (get_or ls cache _) ∙ ap length (messages-at ls cache))
