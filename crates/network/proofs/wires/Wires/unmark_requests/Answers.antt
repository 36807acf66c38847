use Rattle.std.proofs.Common.{ap, false, map, ◌∙◌}
use Rattle.network.specs.inner.Links.{marks_in, messages_in}
use Rattle.network.proofs.Parts.{marks-remarked, messages-remarked}
use Rattle.network.proofs.wires.Wires.unmark_requests.Goals as goal

pub returns : goal.returns
returns c =
    let rs = c.self.inside.requests in
    let ls = c.self.inside.links in
    let ss = c.self.inside.responses in
    let messages = ap messages_in c.unmark.ensures.sent ∙ messages-remarked (λ m. false) rs.sent in
    let marks = ap marks_in c.unmark.ensures.sent ∙ marks-remarked (λ m. false) rs.sent in
    rw (← c.self.view_is)
    (λ i. record {
      traffic = record { requests = messages i; links = map messages_in ls.sent; responses = messages_in ss.sent };
      room = record { requests = c.unmark.ensures.room i; links = ls.room; responses = ss.room };
      marks = record { requests = marks i; links = map marks_in ls.sent; responses = marks_in ss.sent };
    })
