use Rattle.std.proofs.Common.{◌≤◌, arith, below_more}
use Rattle.closing.specs.inner.Told.{GluesWith}
use Rattle.closing.proofs.glueing.is_glued_beside.Goals as goal

pub loop-other-preserved : goal.loop-other-preserved
loop-other-preserved c =
    below_more (λ j. c.args.beside.begin ≤ j →
    GluesWith c.args.list.now c.args.numbers.now.seconds.items c.args.steps.now c.args.ranked.now c.args.mine.now
    c.args.between j)
    _ c.loop-other.invariant (λ from. c.is_glued_with.ensures c.if-not-is_glued_with.false)

pub returns : goal.returns
returns c = λ t j from below. c.loop-other.invariant j (omega (arith, from, below, c.loop-other-test.false)) from
