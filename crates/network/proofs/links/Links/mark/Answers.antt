use Rattle.std.proofs.Common.{[], ◌≡◌, Some, ap, arith, get_or, map, not, refl, set, sym, ◌∙◌}
use Rattle.std.proofs.lemmas.List.{length-map}
use Rattle.network.specs.inner.Links.{marks_in, on_link, remarked, room_on}
use Rattle.network.specs.Marks.{is_stopped}
use Rattle.network.proofs.Linked.{linked-marked, linked-same, nil-is, parts-at, parts-set, parts-set_same, set-same, used-below, waiting-at}
use Rattle.rows.specs.Flags.{is_set}
use Rattle.network.proofs.links.Links.mark.Goals as goal

pub invariant_of-self : goal.invariant_of-self
invariant_of-self g c =
    let items = c.self.inside.links.items in
    let i = c.args.cache.0 in
    let ls = map on_link items in
    let told = g.K.Marker.told c.args.marker.now in
    let here : get_or ls i [] ≡ c.in-Some.link.now.sent = parts-at on_link items i ∙ ap on_link (sym c.in-Some.ensures.item) in
    let made : c.mark.new.self.sent ≡ remarked told (get_or ls i []) = c.mark.ensures.sent ∙ ap (remarked told) (sym here) in
    let within = used-below items i c.in-Some.link.now c.in-Some.ensures.item in
    rw (c.set.ensures ∙ ap (set c.self.inside.free i) (c.has_free_head.ensures ∙ ap (λ xs. not (is_stopped (marks_in xs))) made))
    (linked-same _ _ _ _ _
    (parts-set on_link items i (Some c.in-Some.link.now) c.mark.new.self (remarked told) c.in-Some.ensures.item c.mark.ensures.sent)
    (linked-marked ls i told c.self.inside.waiting c.self.inside.free c.self.inside.count (omega (arith, length-map items on_link)) c.self.invariant))

pub returns-in-Some : goal.returns-in-Some
returns-in-Some g c =
    let told = remarked (g.K.Marker.told c.args.marker.now) in
    rw (← c.self.view_is)
    (record {
      sent = parts-set on_link c.self.inside.links.items c.args.cache.0 (Some c.in-Some.link.now) c.mark.new.self told c.in-Some.ensures.item c.mark.ensures.sent;
      room = parts-set_same room_on c.self.inside.links.items c.args.cache.0 (Some c.in-Some.link.now) c.mark.new.self c.in-Some.ensures.item c.mark.ensures.room;
    })

pub returns-then-not-contains : goal.returns-then-not-contains
returns-then-not-contains g c =
    let ls = map on_link c.self.inside.links.items in
    let none = nil-is (get_or ls c.args.cache.0 []) (sym (ap (λ fs. is_set fs c.args.cache.0) c.self.invariant.waiting ∙ waiting-at ls c.args.cache.0)
    ∙ sym c.contains.ensures ∙ c.if-not-contains.true) in
    let told = remarked (g.K.Marker.told c.args.marker.now) in
    rw (← c.self.view_is)
    (record { sent = sym (set-same ls c.args.cache.0 (told (get_or ls c.args.cache.0 [])) [] (none ∙ ap told (sym none))); room = refl })
