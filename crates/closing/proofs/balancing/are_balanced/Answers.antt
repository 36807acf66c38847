use Rattle.std.proofs.Common.{◌≡◌, arith, below_more, Some, slice_get}
use Rattle.std.specs.Global.{Vec}
use Rattle.closing.specs.declared.following.Followed.{Followed}
use Rattle.closing.specs.declared.ranked.RankedPair.{RankedPair}
use Rattle.closing.specs.inner.Told.{IsBalanced}
use Rattle.closing.proofs.Reading.{below-length}
use Rattle.closing.proofs.balancing.are_balanced.Goals as goal

pub loop-place-preserved : goal.loop-place-preserved
loop-place-preserved c =
    below_more (λ k. (r : RankedPair) (told : Vec Followed) → slice_get c.args.list.now k ≡ Some r → slice_get c.args.steps.now k ≡ Some told →
    IsBalanced c.args.tables.now r.pair told.items) _ c.loop-place.invariant (c.is_balanced_at.ensures c.if-not-is_balanced_at.false)

pub returns : goal.returns
returns c = λ t k r told at has.
    c.loop-place.invariant k (omega (arith, below-length c.args.list.now k r at, c.loop-place-test.false)) r told at has
