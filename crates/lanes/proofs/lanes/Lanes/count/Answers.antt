use Rattle.std.proofs.Common.{◌≡◌, ◌∙◌, ap, length, subst, sym, true}
use Rattle.lanes.specs.Lanes.{AreReadyIn, Laned}
use Rattle.lanes.specs.inner.Kept.{laned}
use Rattle.lanes.proofs.Kept.{are-kept, choices-count, choices-usable}
use Rattle.lanes.proofs.lanes.Lanes.count.Goals as goal

pub returns : goal.returns
returns g c =
    let world = c.args.world.now in
    let cores = c.args.cores.now in
    let l = laned c.self.inside in
    let usable = c.if-not-self.false in
    let ready = subst (λ (l : Laned). l.usable ≡ true → AreReadyIn world cores l) (sym c.self.view_is) c.requires usable in
    rw (← c.self.view_is)
    (choices-count world.tables world.state cores l c.total.result c.enabled_count.result
    (are-kept c.self.inside c.self.invariant usable) ready (sym c.broken.ensures ∙ c.if-broken.false) c.total.ensures.total c.enabled_count.ensures.count
    ∙ ap length (choices-usable world cores l usable))
