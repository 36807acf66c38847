use Rattle.world.proofs.Keeping.{line-there-iff}
use Rattle.world.proofs.worlds.World.line.Goals as goal

pub returns-clause-there : goal.returns-clause-there
returns-clause-there c =
    rw (c.find_line.ensures, ← c.self.view_is) (line-there-iff _ _ c.args.cache.0 c.args.block.0 c.self.invariant.shaped)
