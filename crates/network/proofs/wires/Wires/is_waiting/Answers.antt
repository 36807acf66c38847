use Rattle.std.proofs.Common.{◌∙◌, sym, length, ◌<◌, subst}
use Rattle.network.proofs.Linked.{waiting-at}
use Rattle.network.proofs.Parts.{messages-at, there-waits, waits-there}
use Rattle.network.proofs.wires.Wires.is_waiting.Goals as goal

pub returns : goal.returns
returns c =
    let ls = c.self.inside.links.sent in
    let flag = c.is_waiting.ensures ∙ waiting-at ls c.args.cache.0 in
    rw (← c.self.view_is) (
      (λ is. subst (λ l. 0 < length l) (messages-at ls c.args.cache.0) (there-waits _ (sym flag ∙ is))),
      (λ some. flag ∙ waits-there _ (subst (λ l. 0 < length l) (sym (messages-at ls c.args.cache.0)) some)),
    )
