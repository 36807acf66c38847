use Rattle.std.proofs.Common.{refl}
use Rattle.base.specs.Words.{words}
use Rattle.record.specs.inner.Drafts.{kept}
use Rattle.record.proofs.Drafting.{protocol-taken}
use Rattle.record_lines.proofs.DueFaults.{protocol-fault}
use Rattle.record.proofs.Exits.{handed-on}
use Rattle.record.proofs.draft.Draft.accept_protocol.Goals as goal

pub returns-in_err-protocol-clause-err : goal.returns-in_err-protocol-clause-err
returns-in_err-protocol-clause-err c =
    handed-on c.from_residual.result _ _ _ c.from_residual.ensures.1
    (protocol-fault (words c.args.line.now) _ c.in_err-protocol.ensures.err)

pub returns-clause-ok : goal.returns-clause-ok
returns-clause-ok c =
    protocol-taken (kept c.args.self.now) _ (words c.args.line.now) c.in_ok-protocol.protocol _ c.requires.read c.in_ok-protocol.ensures.ok
    c.baseline_of-self.ensures refl
