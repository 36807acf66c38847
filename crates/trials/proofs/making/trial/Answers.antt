use Rattle.std.proofs.Common.{arith}
use Rattle.std.proofs.lemmas.Grind.{common_steps}
use Rattle.scenario.specs.Tree.{plain}
use Rattle.trials.specs.Trial.{IsTrial}
use Rattle.trials.proofs.making.trial.Goals as goal

pub returns : goal.returns
returns g c =
    let terms = c.args.setup.now in
    let tree = plain c.args.scenario.now in
    let n = c.args.number in
    let verdict = c.in_ok-recording.verdict in
    let trial : IsTrial terms tree n c.in_ok-recording.recording verdict = c.in_ok-recording.ensures in
    let lawful = c.setups_are_lawful.ensures in
    record {
      trial = trial;
      numbered = grind (arith, common_steps);
      steps = grind (arith, common_steps);
      legal = c.trials_break_where_they_arent_safe.ensures.legal terms tree n _ verdict trial;
      in_turn = c.cores_are_answered_in_turn.ensures terms tree n trial.moments c.in_ok-recording.recording.entries trial.path;
      broke = c.trials_break_where_they_arent_safe.ensures.broke terms tree n _ verdict trial;
      unbroken = λ restrained. (c.trials_under_restrained_tables.ensures terms restrained lawful).unbroken tree n _ verdict trial;
      sequential = λ restrained. (c.trials_under_restrained_tables.ensures terms restrained lawful).sequential tree n _ verdict trial;
      sound = λ never. (c.trials_under_tables_that_keep_going.ensures terms never lawful).sound tree n _ verdict trial;
    }
