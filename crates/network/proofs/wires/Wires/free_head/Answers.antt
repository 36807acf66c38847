use Rattle.network.proofs.Parts.{kth-head}
use Rattle.network.proofs.wires.Wires.free_head.Goals as goal

pub returns : goal.returns
returns c =
    rw (← c.self.view_is) (kth-head c.self.inside.links.sent c.args.k c.free_head.result c.free_head.ensures.place c.free_head.ensures.found.1)
