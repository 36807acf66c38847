use Rattle.std.proofs.Common.{◌∙◌, refl}
use Rattle.world.proofs.Delivering.{delivery-of}
use Rattle.world.proofs.worlds.World.enabled_of.Goals as goal

pub returns : goal.returns
returns c =
    c.delivery_at.ensures
    ∙ rw (← c.self.view_is)
    (delivery-of c.self.inside.shape c.self.inside.controllers c.self.inside.opening.items c.self.inside.blocks.items c.self.inside.counts _ _
    c.self.invariant refl)
