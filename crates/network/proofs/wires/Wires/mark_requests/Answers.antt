use Rattle.std.proofs.Common.{ap, map, ◌∙◌}
use Rattle.network.specs.inner.Links.{marks_in, messages_in}
use Rattle.network.proofs.Parts.{marks-remarked_from, messages-remarked_from}
use Rattle.network.proofs.wires.Wires.mark_requests.Goals as goal

pub returns : goal.returns
returns g c =
    let rs = c.self.inside.requests in
    let ls = c.self.inside.links in
    let ss = c.self.inside.responses in
    let told = g.K.Marker.told c.args.marker.now in
    let messages = ap messages_in c.mark.ensures.sent ∙ messages-remarked_from c.args.from told rs.sent in
    let marks = ap marks_in c.mark.ensures.sent ∙ marks-remarked_from c.args.from told rs.sent in
    rw (← c.self.view_is)
    (λ i. record {
      traffic = record { requests = messages i; links = map messages_in ls.sent; responses = messages_in ss.sent };
      room = record { requests = c.mark.ensures.room i; links = ls.room; responses = ss.room };
      marks = record { requests = marks i; links = map marks_in ls.sent; responses = marks_in ss.sent };
    })
