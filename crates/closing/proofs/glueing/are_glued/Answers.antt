use Rattle.std.proofs.Common.{arith, below_more}
use Rattle.closing.specs.inner.Told.{GluesAt}
use Rattle.closing.proofs.glueing.are_glued.Goals as goal

pub loop-place-preserved : goal.loop-place-preserved
loop-place-preserved c =
    below_more (λ k. GluesAt c.args.list.now c.args.numbers.now c.args.steps.now k) _ c.loop-place.invariant
    (c.is_glued_at.ensures c.if-not-is_glued_at.false)

pub returns : goal.returns
returns c = λ t place lt. c.loop-place.invariant place (omega (arith, lt, c.loop-place-test.false))
