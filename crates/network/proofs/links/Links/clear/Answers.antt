use Rattle.std.proofs.Common.{ap, map, length, sym, ◌∙◌, [], replicate, false}
use Rattle.std.proofs.lemmas.List.{length-map}
use Rattle.network.specs.inner.Links.{on_link}
use Rattle.network.proofs.Linked.{linked-none, linked-same, no_messages, parts-none}
use Rattle.network.proofs.links.Links.clear.Goals as goal

pub returns-then-self-eq0 : goal.returns-then-self-eq0
returns-then-self-eq0 c =
    rw (← c.self.view_is) (no_messages (map on_link c.self.inside.links.items) (sym c.self.invariant.count ∙ c.if-self-eq0.true))

pub invariant_of-self : goal.invariant_of-self
invariant_of-self c =
    let items = c.self.inside.links.items in
    let waiting = c.clear-2.ensures ∙ ap (λ n. replicate n false)
    (ap length c.self.invariant.waiting ∙ length-map (map on_link items) _ ∙ length-map items on_link) in
    let free = c.clear-3.ensures ∙ ap (λ n. replicate n false)
    (ap length c.self.invariant.free ∙ length-map (map on_link items) _ ∙ length-map items on_link) in
    rw (waiting, free) (linked-same _ _ _ _ 0 (ap (map on_link) c.clear.ensures.items ∙ parts-none on_link (length items)) (linked-none (length items)))

pub returns : goal.returns
returns c =
    rw (← c.self.view_is)
    (ap (map on_link) c.clear.ensures.items ∙ parts-none on_link (length c.self.inside.links.items)
    ∙ ap (λ n. replicate n []) (sym (length-map c.self.inside.links.items on_link)))
