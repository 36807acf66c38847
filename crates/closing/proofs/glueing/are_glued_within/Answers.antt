use Rattle.std.proofs.Common.{◌≡◌, ◌∙◌, ℕ, subst, arith, below_more, Some, slice_get}
use Rattle.closing.specs.declared.following.Followed.{Followed}
use Rattle.closing.specs.inner.Told.{AreOne}
use Rattle.closing.specs.inner.Told.{GluesOver}
use Rattle.closing.proofs.Reading.{below-length, read}
use Rattle.closing.proofs.glueing.are_glued_within.Goals as goal

pub loop-one-preserved : goal.loop-one-preserved
loop-one-preserved c =
    below_more (λ m. (f : Followed) → slice_get c.args.mine.now m ≡ Some f → (n : ℕ) (g : Followed) → slice_get c.args.theirs.now n ≡ Some g → AreOne f g →
    GluesOver c.args.list.now c.args.numbers.now.seconds.items c.args.span c.args.second c.args.neighbour.now f g) _ c.loop-one.invariant
    (λ f at. subst (λ (x : Followed). (n : ℕ) (g : Followed) → slice_get c.args.theirs.now n ≡ Some g → AreOne x g →
    GluesOver c.args.list.now c.args.numbers.now.seconds.items c.args.span c.args.second c.args.neighbour.now x g)
    (c.one-item.is ∙ read c.args.mine.now _ f _ at)
    (c.is_glued_to.ensures c.if-not-is_glued_to.false))

pub returns : goal.returns
returns c = λ t m f at. c.loop-one.invariant m (omega (arith, below-length c.args.mine.now m f at, c.loop-one-test.false)) f at
