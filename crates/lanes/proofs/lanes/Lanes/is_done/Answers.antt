use Rattle.std.proofs.Common.{◌∙◌}
use Rattle.scenario.specs.Taking.{offers}
use Rattle.lanes.specs.Lanes.{whole}
use Rattle.lanes.specs.inner.Kept.{laned}
use Rattle.lanes.proofs.Kept.{all-lengths, are-kept, none-or-some}
use Rattle.lanes.proofs.lanes.Lanes.is_done.Goals as goal

pub returns-then-self : goal.returns-then-self
returns-then-self g c =
    let l = laned c.self.inside in
    let none = none-or-some c.total.result (offers (whole l))
    (c.total.ensures.total ∙ all-lengths l (are-kept c.self.inside c.self.invariant c.if-self.true)) in
    rw (← c.self.view_is) (λ h. record { usable = c.if-self.true; nothing_offered = none.0 h }, λ done. none.1 done.nothing_offered)
