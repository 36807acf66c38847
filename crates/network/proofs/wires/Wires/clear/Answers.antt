use Rattle.std.proofs.Common.{[], ap, length, map, replicate, sym, ◌∙◌}
use Rattle.std.proofs.lemmas.List.{length-map}
use Rattle.network.specs.inner.Links.{marks_in, messages_in}
use Rattle.network.proofs.Parts.{none-on}
use Rattle.network.proofs.wires.Wires.clear.Goals as goal

pub returns-clause-traffic : goal.returns-clause-traffic
returns-clause-traffic c =
    let many = length-map c.self.inside.links.sent messages_in in
    let links = ap (map messages_in) c.clear-2.ensures ∙ none-on messages_in [] (length c.self.inside.links.sent) ∙ ap (λ n. replicate n []) (sym many) in
    rw (← c.self.view_is)
    (λ i. record { requests = ap messages_in c.clear.ensures i; links = links i; responses = ap messages_in c.clear-3.ensures i })

pub returns-clause-marks : goal.returns-clause-marks
returns-clause-marks c =
    let many = length-map c.self.inside.links.sent messages_in in
    let links = ap (map marks_in) c.clear-2.ensures ∙ none-on marks_in [] (length c.self.inside.links.sent) ∙ ap (λ n. replicate n []) (sym many) in
    rw (← c.self.view_is)
    (λ i. record { requests = ap marks_in c.clear.ensures i; links = links i; responses = ap marks_in c.clear-3.ensures i })
