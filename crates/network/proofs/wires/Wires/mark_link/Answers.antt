use Rattle.std.proofs.Common.{[], ◌≡◌, ap, get_or, map, ◌∙◌}
use Rattle.network.specs.inner.Links.{marks_in, messages_in, remarked}
use Rattle.std.proofs.lemmas.List.{set-get_or}
use Rattle.network.proofs.Parts.{link-set, marks-remarked, messages-at, messages-remarked}
use Rattle.network.proofs.wires.Wires.mark_link.Goals as goal

pub returns : goal.returns
returns g c =
    let ls = c.self.inside.links.sent in
    let cache = c.args.cache.0 in
    let told = g.K.Marker.told c.args.marker.now in
    let messages : map messages_in c.mark.new.self.sent ≡ map messages_in ls =
    ap (map messages_in) c.mark.ensures.sent
    ∙ link-set messages_in ls cache (remarked told (get_or ls cache [])) (get_or (map messages_in ls) cache [])
    (messages-remarked told (get_or ls cache []) ∙ messages-at ls cache)
    ∙ set-get_or (map messages_in ls) cache [] in
    let marks =
    ap (map marks_in) c.mark.ensures.sent
    ∙ link-set marks_in ls cache (remarked told (get_or ls cache [])) (map told (get_or (map messages_in ls) cache []))
    (marks-remarked told (get_or ls cache []) ∙ ap (map told) (messages-at ls cache)) in
    let rs = c.self.inside.requests in
    let ss = c.self.inside.responses in
    rw (← c.self.view_is)
    (λ i. record {
      traffic = record { requests = messages_in rs.sent; links = messages i; responses = messages_in ss.sent };
      room = record { requests = rs.room; links = c.mark.ensures.room i; responses = ss.room };
      marks = record { requests = marks_in rs.sent; links = marks i; responses = marks_in ss.sent };
    })
