use Rattle.std.proofs.Common.{◌∙◌}
use Rattle.machine.proofs.Latest.{latest-due}
use Rattle.world.proofs.worlds.World.latest.Goals as goal

pub returns-clause-due : goal.returns-clause-due
returns-clause-due c opening steps history =
    let world = c.args.self.now in
    c.find_latest.ensures.latest ∙ latest-due world.shape world.tables opening steps world.state c.args.block.0 history
