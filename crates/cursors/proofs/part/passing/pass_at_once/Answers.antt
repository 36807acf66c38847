use Rattle.std.proofs.Common.{sym, ◌∙◌, arith}
use Rattle.cursors.specs.Cursors.{progress}
use Rattle.scenario.specs.Tree.{plain_all}
use Rattle.std.proofs.lemmas.Grind.{common_steps}
use Rattle.scenario.proofs.Children.{children}
use Rattle.cursors.proofs.Passing.{passes-row, passes-whole}
use Rattle.cursors.proofs.part.passing.pass_at_once.Goals as goal

pub returns-in-Whole-Seq-clause-passed : goal.returns-in-Whole-Seq-clause-passed
returns-in-Whole-Seq-clause-passed g c done =
    passes-whole c.args.part.now c.in-Whole-Seq.field-0 (plain_all c.as_slice.result.now) c.args.at (progress c.pass_ask-in-Whole-Seq.new.part)
    (sym c.place.ensures ∙ c.in-Whole-Seq.is)
    (grind (arith, common_steps, children)) c.requires (c.pass_ask-in-Whole-Seq.ensures.passed done)

pub returns-then-first_is_over-clause-passed : goal.returns-then-first_is_over-clause-passed
returns-then-first_is_over-clause-passed g c done =
    passes-row c.args.part.now c.in-InSeq.others c.args.at (progress c.pass_ask.new.part) (sym c.place.ensures ∙ c.in-InSeq.is)
    (c.first_is_over.ensures c.if-first_is_over.true) c.requires (c.pass_ask.ensures.passed done)
