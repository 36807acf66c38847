use Rattle.std.proofs.Common.{◌≡◌, ◌∙◌, subst, arith, below_more, Some, slice_get}
use Rattle.closing.specs.declared.ranked.Order.TheVariants.{After}
use Rattle.closing.specs.declared.ranked.RankedPair.{RankedPair}
use Rattle.closing.specs.Blamed as blamed
use Rattle.closing.proofs.Reading.{below-length, read}
use Rattle.closing.proofs.blaming.are_earlier.Goals as goal

pub loop-other-preserved : goal.loop-other-preserved
loop-other-preserved c =
    below_more (λ k. (q : RankedPair) → slice_get c.args.list.now k ≡ Some q → blamed.IsBlamable c.args.tables.now c.args.kind c.args.pair.now q.pair →
    q.order ≡ After) _ c.loop-other.invariant
    (λ q at. subst (λ (x : RankedPair). blamed.IsBlamable c.args.tables.now c.args.kind c.args.pair.now x.pair → x.order ≡ After)
    (c.other-item.is ∙ read c.args.list.now _ q _ at) (c.is_earlier.ensures c.if-not-is_earlier.false))

pub returns : goal.returns
returns c = λ t k q at. c.loop-other.invariant k (omega (arith, below-length c.args.list.now k q at, c.loop-other-test.false)) q at
