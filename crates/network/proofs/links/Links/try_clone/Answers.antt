use Rattle.std.proofs.Common.{map, sym, [], ◌∙◌}
use Rattle.std.specs.Option.{unwrap_or}
use Rattle.network.proofs.Linked.{linked-same, sent-seen}
use Rattle.network.proofs.links.Links.try_clone.Goals as goal

pub invariant_of-result : goal.invariant_of-result
invariant_of-result c =
    rw (c.in_ok-waiting.ensures, c.in_ok-free.ensures)
    (linked-same _ _ _ _ _
    (sent-seen c.in_ok-links.links.items ∙ (λ i. map (λ o. unwrap_or o []) (c.in_ok-links.ensures i).items) ∙ sym (sent-seen c.self.inside.links.items))
    c.self.invariant)

pub returns : goal.returns
returns c =
    rw (← c.self.view_is)
    (sent-seen c.in_ok-links.links.items ∙ (λ i. map (λ o. unwrap_or o []) (c.in_ok-links.ensures i).items) ∙ sym (sent-seen c.self.inside.links.items))
