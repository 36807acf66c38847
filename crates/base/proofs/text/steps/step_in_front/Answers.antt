use Rattle.base.specs.Words.{words}
use Rattle.base.proofs.Spellings.{no_step}
use Rattle.base.proofs.text.steps.step_in_front.Goals as goal

pub returns-in_err-kind : goal.returns-in_err-kind
returns-in_err-kind c = rw c.from_residual.ensures (no_step (words c.args.line.now) c.in_default.ensures c.in_err-kind.ensures)
