use Rattle.std.proofs.Common.{◌≡◌, ◌∙◌, subst, arith, below_more, Some, slice_get}
use Rattle.closing.specs.declared.following.Followed.{Followed}
use Rattle.closing.specs.Ranked.{KeepsBalance}
use Rattle.closing.proofs.Reading.{below-length, read}
use Rattle.closing.proofs.balancing.steps_are_balanced.Goals as goal

pub loop-step-preserved : goal.loop-step-preserved
loop-step-preserved c =
    below_more (λ k. (f : Followed) → slice_get c.args.steps.now k ≡ Some f → KeepsBalance f.concerned c.args.pair.now f.after) _ c.loop-step.invariant
    (λ f at. subst (λ (g : Followed). KeepsBalance g.concerned c.args.pair.now g.after) (c.step-item.is ∙ read c.args.steps.now _ f _ at)
    (c.keeps_balance.ensures c.if-not-keeps_balance.false))

pub returns : goal.returns
returns c = λ t k f at. c.loop-step.invariant k (omega (arith, below-length c.args.steps.now k f at, c.loop-step-test.false)) f at
