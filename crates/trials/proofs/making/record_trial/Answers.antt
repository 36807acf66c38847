use Rattle.std.proofs.Common.{◌∙◌, sym, subst}
use Rattle.scenario.specs.Tree.{plain}
use Rattle.record.specs.View.{RecordingView}
use Rattle.trials.specs.Trial.{IsTrial}
use Rattle.trials.proofs.making.record_trial.Goals as goal

pub returns : goal.returns
returns g c =
    let ended =
    c.in_ok-verdict.ensures.ends c.args.setup.now (plain c.args.scenario.now) c.args.number (sym c.limit.ensures.value) c.in_ok-course.ensures in
    subst (λ (r : RecordingView). IsTrial c.args.setup.now (plain c.args.scenario.now) c.args.number r c.in_ok-verdict.verdict)
    (sym (c.into_notes.ensures ∙ ended.1.0)) ended.2
