use Rattle.std.proofs.Common.{[], ◌≡◌, Bool, ap, false, get_or, map, ◌∙◌}
use Rattle.network.specs.inner.Links.{marks_in, messages_in, remarked}
use Rattle.network.specs.declared.message.Forward.{Forward}
use Rattle.std.proofs.lemmas.List.{set-get_or}
use Rattle.network.proofs.Parts.{link-set, marks-remarked, messages-at, messages-remarked}
use Rattle.network.proofs.wires.Wires.unmark_link.Goals as goal

abbrev none : Forward → Bool
none f = false

pub returns : goal.returns
returns c =
    let ls = c.self.inside.links.sent in
    let cache = c.args.cache.0 in
    let messages : map messages_in c.unmark.new.self.sent ≡ map messages_in ls =
    ap (map messages_in) c.unmark.ensures.sent
    ∙ link-set messages_in ls cache (remarked none (get_or ls cache [])) (get_or (map messages_in ls) cache [])
    (messages-remarked none (get_or ls cache []) ∙ messages-at ls cache)
    ∙ set-get_or (map messages_in ls) cache [] in
    let marks =
    ap (map marks_in) c.unmark.ensures.sent
    ∙ link-set marks_in ls cache (remarked none (get_or ls cache [])) (map none (get_or (map messages_in ls) cache []))
    (marks-remarked none (get_or ls cache []) ∙ ap (map none) (messages-at ls cache)) in
    let rs = c.self.inside.requests in
    let ss = c.self.inside.responses in
    rw (← c.self.view_is)
    (λ i. record {
      traffic = record { requests = messages_in rs.sent; links = messages i; responses = messages_in ss.sent };
      room = record { requests = rs.room; links = c.unmark.ensures.room i; responses = ss.room };
      marks = record { requests = marks_in rs.sent; links = marks i; responses = marks_in ss.sent };
    })
