use Rattle.base.proofs.Spellings.{read_bare}
use Rattle.base.proofs.step.Outcome.read.Goals as goal

pub returns : goal.returns
returns c = read_bare c.args.line.now c.bare_outcome.result c.in_default.ensures c.in_default-behind_word.ensures c.bare_outcome.ensures
