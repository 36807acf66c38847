use Rattle.std.proofs.Common.{refl, sym}
use Rattle.scenario.specs.Tree.{plain}
use Rattle.trials.proofs.series.finish.Goals as goal

pub returns-clause-result : goal.returns-clause-result
returns-clause-result g c =
    let ended = c.in_ok-verdict.ensures.ends c.args.setup.now (plain c.args.scenario.now) c.args.number (sym c.limit.ensures.value) c.requires in
    record { recording = ended.0; trial = ended.2; numbered = refl; steps = c.steps.ensures ended.0 ended.1 }
