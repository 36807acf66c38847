use Rattle.std.proofs.Common.{◌∙◌, ap, length, sym}
use Rattle.world.proofs.Counted.{enabled-going}
use Rattle.world.proofs.Stepping.{state_of}
use Rattle.world.proofs.Spotted.{all-counted}
use Rattle.world.proofs.worlds.World.enabled_count.Goals as goal

pub returns-clause-count : goal.returns-clause-count
returns-clause-count c =
    c.total.ensures.total
    ∙ rw (← c.self.view_is)
    (sym (ap length (enabled-going c.self.inside.controllers
    (state_of c.self.inside.shape c.self.inside.opening.items c.self.inside.blocks.items c.self.inside.met_blank) c.if-self.false)
    ∙ all-counted c.self.inside.controllers _ c.self.inside.counts c.self.invariant.counted))
