use Rattle.command_tables.proofs.Jammed.{gone-more}
use Rattle.command_tables.proofs.jamming.makes_all.Goals as goal

pub loop-line-preserved : goal.loop-line-preserved
loop-line-preserved c = gone-more c.args.world.now c.loop-line.world c.step.new.self c.args.steps.now c.loop-line.rest.now c.in-Some.line.now
    c.in-Some.behind.now c.in-Some-read.step c.loop-line.invariant c.in-Some.ensures c.in-Some-read.ensures c.in_ok-outcome.ensures.ok.history
    c.in_ok-outcome.ensures.ok.tables c.in_ok-outcome.ensures.ok.shape
