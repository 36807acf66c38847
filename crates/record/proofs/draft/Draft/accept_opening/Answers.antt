use Rattle.std.proofs.Common.{arith, subst}
use Rattle.std.proofs.lemmas.Grind.{common_steps}
use Rattle.base.specs.Words.{words}
use Rattle.record_lines.specs.Reading.{IsBadOpening}
use Rattle.record_lines.proofs.DueFaults.{opening-fault}
use Rattle.record.proofs.Exits.{handed-on}
use Rattle.record.proofs.draft.Draft.accept_opening.Goals as goal

pub returns-in_err-opening_of-clause-ok : goal.returns-in_err-opening_of-clause-ok
returns-in_err-opening_of-clause-ok c = grind (arith, common_steps)

pub returns-in_err-opening_of-clause-err : goal.returns-in_err-opening_of-clause-err
returns-in_err-opening_of-clause-err c =
    handed-on c.from_residual.result _ _ _ c.from_residual.ensures.1
    (opening-fault c.args.form c.args.shape (words c.args.line.now) _
    (subst (λ n. IsBadOpening n (words c.args.line.now) c.in_err-opening_of.field-0.0) c.blocks-2.ensures.value c.in_err-opening_of.ensures.read))

pub returns-in_err-opening_of-clause-room : goal.returns-in_err-opening_of-clause-room
returns-in_err-opening_of-clause-room c = grind (arith, common_steps)

pub returns-clause-ok : goal.returns-clause-ok
returns-clause-ok c = grind (arith, common_steps)

pub returns-clause-err : goal.returns-clause-err
returns-clause-err c = grind (arith, common_steps)

pub returns-clause-room : goal.returns-clause-room
returns-clause-room c = grind (arith, common_steps)
