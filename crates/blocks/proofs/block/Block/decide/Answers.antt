use Rattle.machine.proofs.Fitting.{decision-fits}
use Rattle.blocks.proofs.Deciding.{decision-names}
use Rattle.blocks.proofs.OwnLine.{decision-about}
use Rattle.blocks.proofs.block.Block.decide.Goals as goal

pub returns-clause-fits : goal.returns-clause-fits
returns-clause-fits g c = rw (c.decision.ensures, ← c.self.view_is)
    (decision-fits _ c.args.tables.now (g.S.Served.step c.args.served.now) _ c.self.invariant.among)

pub returns-clause-names : goal.returns-clause-names
returns-clause-names g c =
    rw (c.decision.ensures, ← c.self.view_is)
    (decision-names c.self.inside.lines.items c.args.tables.now (g.S.Served.step c.args.served.now) _ c.self.invariant.lines c.self.invariant.traffic)

pub returns-clause-among : goal.returns-clause-among
returns-clause-among g c = rw (← c.self.view_is) c.self.invariant.among

pub returns-clause-line : goal.returns-clause-line
returns-clause-line g c = rw c.decision.ensures (decision-about c.args.tables.now (g.S.Served.step c.args.served.now) c.args.self.now.state)
