use Rattle.std.proofs.Common.{subst}
use Rattle.base.specs.Words.{words}
use Rattle.record_lines.specs.Reading.{IsBadCount}
use Rattle.record_lines.proofs.DueFaults.{seats-fault}
use Rattle.record.proofs.Exits.{handed-on}
use Rattle.record.proofs.draft.Draft.accept_seats.Goals as goal

pub returns-in_err-self-clause-err : goal.returns-in_err-self-clause-err
returns-in_err-self-clause-err c =
    handed-on c.from_residual.result _ _ _ c.from_residual.ensures.1
    (seats-fault c.args.form c.args.shape (words c.args.line.now) _
    (subst (λ name. IsBadCount name 64 (words c.args.line.now) c.in_err-self.field-0.0) c.as_slice.ensures c.in_err-self.ensures.err))
