use Rattle.std.proofs.Common.{◌≡◌, ◌∙◌, subst, arith, below_more, Some, slice_get}
use Rattle.closing.specs.declared.following.Followed.{Followed}
use Rattle.closing.specs.inner.Told.{AreOne}
use Rattle.closing.specs.inner.Told.{GluesOver}
use Rattle.closing.proofs.Reading.{below-length, read}
use Rattle.closing.proofs.glueing.is_glued_to.Goals as goal

pub loop-other-preserved : goal.loop-other-preserved
loop-other-preserved c =
    below_more (λ n. (g : Followed) → slice_get c.args.theirs.now n ≡ Some g → AreOne c.args.one.now g →
    GluesOver c.args.list.now c.args.numbers.now.seconds.items c.args.span c.args.second c.args.neighbour.now c.args.one.now g) _ c.loop-other.invariant
    (λ g at. subst (λ (x : Followed). AreOne c.args.one.now x →
    GluesOver c.args.list.now c.args.numbers.now.seconds.items c.args.span c.args.second c.args.neighbour.now c.args.one.now x)
    (c.other-item.is ∙ read c.args.theirs.now _ g _ at)
    (c.may_be_glued.ensures c.if-not-may_be_glued.false))

pub returns : goal.returns
returns c = λ t n g at. c.loop-other.invariant n (omega (arith, below-length c.args.theirs.now n g at, c.loop-other-test.false)) g at
