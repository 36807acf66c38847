use Rattle.std.proofs.Common.{arith, ap, length, get_or, List, ℕ}
use Rattle.base.specs.Words.{words}
use Rattle.record_lines.proofs.Splitting.{no-sign}
use Rattle.record_lines.proofs.parsing.step_at_front.Goals.{then-rest-lt2-via-then-rest-lt2, then-rest-lt2-via-else-rest-lt2+then-rest-ne61}
use Rattle.record_lines.proofs.parsing.step_at_front.Goals.{then-rest-lt2-via-else-rest-lt2+else-rest-ne61+then-rest-ne32}
use Rattle.record_lines.proofs.parsing.step_at_front.Goals as goal

pub returns-then-rest-lt2-clause-step : goal.returns-then-rest-lt2-clause-step
returns-then-rest-lt2-clause-step c =
    no-sign (words c.args.line.now) c.in_ok-step.step c.in_ok-step.rest.now c.in_ok-step.ensures (λ behind is. elim c.then-rest-lt2.branch [
      | then-rest-lt2-via-then-rest-lt2 w ↦ absurd (omega (arith, w.if-rest-lt2.true, ap length is))
      | then-rest-lt2-via-else-rest-lt2+then-rest-ne61 w ↦ w.if-rest-ne61.true (ap (λ (l : List ℕ). get_or l 0 0) is)
      | then-rest-lt2-via-else-rest-lt2+else-rest-ne61+then-rest-ne32 w ↦ w.if-rest-ne32.true (ap (λ (l : List ℕ). get_or l 1 0) is)
    ])
