use Rattle.std.proofs.lemmas.Result.{IfOk-weaker}
use Rattle.std.proofs.Common.{rules}
use Rattle.scenario.specs.Alike.{Alike}
use Rattle.scenario.specs.Tree.{plain}
use Rattle.trials.proofs.series.Series.result.Goals as goal

-- the course that goes on is of the series' scenario
pub finish-requires : goal.finish-requires
finish-requires g c =
    let series = c.args.self.now in
    let same : Alike c.in-Some.course.moment.scenario (plain series.scenario.now) = search rules in
    c.in_ok-restart.ensures.ok (plain series.scenario.now) same

pub returns-in-Some-clause-sound : goal.returns-in-Some-clause-sound
returns-in-Some-clause-sound g c never =
    IfOk-weaker c.finish.result _ _ (λ made is.
    (c.trials_under_tables_that_keep_going.ensures c.args.self.now.setup.now never c.setups_are_lawful.ensures).sound
    (plain c.args.self.now.scenario.now) c.args.number is.recording made.verdict is.trial)
    c.finish.ensures.result

pub returns-clause-sound : goal.returns-clause-sound
returns-clause-sound g c never =
    IfOk-weaker c.first.result _ _ (λ made is.
    (c.trials_under_tables_that_keep_going.ensures c.args.self.now.setup.now never c.setups_are_lawful.ensures).sound
    (plain c.args.self.now.scenario.now) c.args.number is.recording made.verdict is.trial)
    c.first.ensures.result
