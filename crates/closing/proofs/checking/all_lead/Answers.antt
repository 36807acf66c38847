use Rattle.std.proofs.Common.{◌≡◌, ◌∙◌, subst, arith, below_more, Some, slice_get}
use Rattle.closing.specs.declared.following.Followed.{Followed}
use Rattle.closing.specs.inner.Told.{LeadsInto}
use Rattle.closing.proofs.Reading.{below-length, read}
use Rattle.closing.proofs.checking.all_lead.Goals as goal

pub loop-step-preserved : goal.loop-step-preserved
loop-step-preserved c =
    below_more (λ k. (f : Followed) → slice_get c.args.steps.now k ≡ Some f → LeadsInto c.args.list.now c.args.ranked.now f) _ c.loop-step.invariant
    (λ f at. subst (λ (g : Followed). LeadsInto c.args.list.now c.args.ranked.now g) (c.step-item.is ∙ read c.args.steps.now _ f _ at)
    (c.leads.ensures c.if-not-leads.false))

pub returns : goal.returns
returns c = λ t k f at. c.loop-step.invariant k (omega (arith, below-length c.args.steps.now k f at, c.loop-step-test.false)) f at
