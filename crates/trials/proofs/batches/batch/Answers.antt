use Rattle.std.proofs.Common.{arith}
use Rattle.std.proofs.lemmas.Grind.{common_steps}
use Rattle.scenario.specs.Tree.{plain}
use Rattle.trials.proofs.batches.batch.Goals as goal

pub returns-in-Ok-fill-clause-made : goal.returns-in-Ok-fill-clause-made
returns-in-Ok-fill-clause-made g c =
    let terms = c.args.setup.now in
    let tree = plain c.args.scenario.now in
    let lawful = c.setups_are_lawful.ensures in
    let made = c.in-Ok-fill.ensures in
    record {
      few = grind (arith, common_steps);
      made = made;
      unbroken = λ restrained. (c.trials_under_restrained_tables.ensures terms restrained lawful).unbroken_batch tree c.args.n c.fill.new.results.items made;
      sound = λ never. (c.trials_under_tables_that_keep_going.ensures terms never lawful).sound_batch tree c.args.n c.fill.new.results.items made;
    }
