use Rattle.std.proofs.Common.{◌≡◌, ◌≤◌, arith, below_more, Some, slice_get}
use Rattle.closing.specs.declared.ranked.RankedPair.{RankedPair}
use Rattle.closing.specs.inner.Told.{Glues}
use Rattle.closing.proofs.glueing.is_glued_within.Goals as goal

pub loop-place-preserved : goal.loop-place-preserved
loop-place-preserved c =
    below_more (λ k. (r : RankedPair) → c.args.span.begin ≤ k → slice_get c.args.numbers.now.seconds.items k ≡ Some c.args.second →
    slice_get c.args.list.now k ≡
    Some r →
    Glues c.args.list.now c.args.neighbour.now r c.args.one.now c.args.other.now) _ c.loop-place.invariant (λ r from number at. c.is_glued_over.ensures
    c.if-not-is_glued_over.false r number at)

pub returns : goal.returns
returns c = λ t l r from below number at. c.loop-place.invariant l (omega (arith, from, below, c.loop-place-test.false)) r from number at
