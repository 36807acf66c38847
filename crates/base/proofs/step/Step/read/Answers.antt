use Rattle.std.proofs.Common.{[], sym, ◌∙◌}
use Rattle.std.proofs.lemmas.List.{append-nil}
use Rattle.base.specs.Words.{words}
use Rattle.base.specs.Spelling.{step_words}
use Rattle.base.proofs.Spellings.{more_than_step}
use Rattle.base.proofs.step.Step.read.Goals as goal

pub returns-in_err-step : goal.returns-in_err-step
returns-in_err-step c = rw c.from_residual.ensures (λ s fits is. c.in_err-step.ensures s [] fits (is ∙ sym (append-nil (step_words s))))

pub returns-in-Some : goal.returns-in-Some
returns-in-Some c = λ s fits. more_than_step (words c.args.line.now) c.in_ok-step.step s c.in_ok-step.rest c.in-Some.field-0 c.in-Some.is c.in_ok-step.ensures
