use Rattle.std.proofs.Common.{arith, length, map, sym, ◌<◌, ◌∙◌}
use Rattle.std.proofs.lemmas.List.{length-map}
use Rattle.network.specs.inner.Links.{on_link}
use Rattle.network.proofs.Linked.{few-there, linked-behind, linked-first, linked-same}
use Rattle.network.proofs.links.Links.send.Goals as goal

pub overflow_add-self : goal.overflow_add-self
overflow_add-self c =
    omega (
      arith,
      few-there (map on_link c.self.inside.links.items) c.self.invariant.few,
      c.self.invariant.count,
      length-map c.self.inside.links.items on_link,
      c.places-links.ensures,
      c.places-links.type_inv,
    )

pub invariant_of-self-then-not-contains : goal.invariant_of-self-then-not-contains
invariant_of-self-then-not-contains c =
    let there : c.args.cache.0 < length (map on_link c.self.inside.links.items) = rw (sym c.self.view_is) at c.requires in
    rw (c.set.ensures, c.set-then-not-contains.ensures)
    (linked-same _ _ _ _ _ c.in_ok-send_on.ensures.sent.ok
    (linked-first (map on_link c.self.inside.links.items) c.args.cache.0 c.args.forward c.self.inside.waiting c.self.inside.free c.self.inside.count there
    c.self.invariant (sym c.contains.ensures ∙ c.if-not-contains.true)))

pub invariant_of-self-else-not-contains : goal.invariant_of-self-else-not-contains
invariant_of-self-else-not-contains c =
    let there : c.args.cache.0 < length (map on_link c.self.inside.links.items) = rw (sym c.self.view_is) at c.requires in
    linked-same _ _ _ _ _ c.in_ok-send_on.ensures.sent.ok
    (linked-behind (map on_link c.self.inside.links.items) c.args.cache.0 c.args.forward c.self.inside.waiting c.self.inside.free c.self.inside.count there
    c.self.invariant (rw c.in_ok-send_on.ensures.sent.ok at c.in_ok-send_on.ensures.short) (sym c.contains.ensures ∙ c.if-not-contains.false))
