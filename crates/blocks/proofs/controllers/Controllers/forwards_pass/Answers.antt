use Rattle.blocks.proofs.controllers.Controllers.forwards_pass.Goals as goal

pub returns : goal.returns
returns c passes = rw (← c.self.view_is) (c.self.invariant.forwards c.args.state (rw c.number.ensures.number at passes))
