use Rattle.std.proofs.Common.{◌≡◌, ◌∙◌, subst, arith, below_more, Some, slice_get}
use Rattle.closing.specs.declared.ranked.RankedPair.{RankedPair}
use Rattle.closing.specs.inner.Explained.{IsExplained}
use Rattle.closing.proofs.Reading.{below-length, read}
use Rattle.closing.proofs.blaming.are_explained.Goals as goal

pub loop-ranked-preserved : goal.loop-ranked-preserved
loop-ranked-preserved c =
    below_more (λ k. (r : RankedPair) → slice_get c.args.list.now k ≡ Some r → IsExplained c.args.tables.now c.args.list.now r.pair) _ c.loop-ranked.invariant
    (λ r at. subst (λ (x : RankedPair). IsExplained c.args.tables.now c.args.list.now x.pair) (c.ranked-item.is ∙ read c.args.list.now _ r _ at)
    (c.is_explained.ensures c.if-not-is_explained.false))

pub returns : goal.returns
returns c = λ t k r at. c.loop-ranked.invariant k (omega (arith, below-length c.args.list.now k r at, c.loop-ranked-test.false)) r at
