use Rattle.blocks.proofs.controllers.Controllers.held_asks.Goals as goal

pub returns : goal.returns
returns c ask = rw (c.number.ensures.number, ← c.self.view_is) (c.self.invariant.held c.args.state ask)
