use Rattle.std.proofs.Common.{◌∙◌, ap, refl, slice_get, sym}
use Rattle.world.proofs.Counted.{enabled-going}
use Rattle.world.proofs.Delivering.{delivery-right}
use Rattle.world.proofs.Stepping.{state_of}
use Rattle.world.proofs.Spotted.{spot-none}
use Rattle.world.proofs.worlds.World.enabled_at.Goals as goal

pub returns-in_err-spot : goal.returns-in_err-spot
returns-in_err-spot c =
    c.from_residual.ensures
    ∙ rw (← c.self.view_is)
    (sym (ap (λ steps. slice_get steps c.args.k) (enabled-going c.self.inside.controllers
    (state_of c.self.inside.shape c.self.inside.opening.items c.self.inside.blocks.items c.self.inside.met_blank) c.if-self.false)
    ∙ spot-none c.self.inside.controllers _ c.self.inside.counts c.self.invariant.counted c.args.k c.in_err-spot.ensures.none))

pub returns : goal.returns
returns c =
    c.delivery_at.ensures
    ∙ rw (← c.self.view_is)
    (delivery-right c.self.inside.shape c.self.inside.controllers c.self.inside.opening.items c.self.inside.blocks.items c.self.inside.counts _ c.args.k
    c.in_ok-spot.spot c.self.invariant refl c.in_ok-spot.ensures.some
    ∙ ap (λ steps. slice_get steps c.args.k) (sym (enabled-going c.self.inside.controllers
    (state_of c.self.inside.shape c.self.inside.opening.items c.self.inside.blocks.items c.self.inside.met_blank) c.if-self.false)))
