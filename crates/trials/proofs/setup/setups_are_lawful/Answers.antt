use Rattle.std.proofs.Common.{subst}
use Rattle.trials.specs.Terms.{AreLawful}
use Rattle.trials.proofs.setup.setups_are_lawful.Goals as goal

pub returns : goal.returns
returns c = subst AreLawful c.setup.view_is c.setup.invariant
