use Rattle.std.proofs.Common.{◌∙◌}
use Rattle.world.proofs.Delivering.{count-of}
use Rattle.world.proofs.worlds.World.enabled_count_of.Goals as goal

pub returns : goal.returns
returns c =
    c.of_block.ensures
    ∙ rw (← c.self.view_is)
    (count-of c.self.inside.controllers _ c.self.inside.counts c.args.kind c.args.block.0 c.self.invariant.counted)
