use Rattle.base.specs.Words.{words}
use Rattle.record.specs.inner.Drafts.{kept}
use Rattle.record.proofs.Drafting.{shape-taken}
use Rattle.record_lines.proofs.DueFaults.{shape-fault}
use Rattle.record.proofs.Exits.{handed-on}
use Rattle.record.proofs.draft.Draft.accept_shape.Goals as goal

pub returns-in_err-self-clause-err : goal.returns-in_err-self-clause-err
returns-in_err-self-clause-err c =
    handed-on c.from_residual.result _ _ _ c.from_residual.ensures.1
    (shape-fault c.args.form (words c.args.line.now) _ c.in_err-self.ensures.err)

pub returns-clause-ok : goal.returns-clause-ok
returns-clause-ok c =
    shape-taken c.args.form (kept c.args.self.now) (words c.args.line.now) c.in_ok-self.field-0 _ c.requires.read c.in_ok-self.ensures.ok.0
    c.in_ok-self.ensures.ok.1 c.behind_shape.ensures
