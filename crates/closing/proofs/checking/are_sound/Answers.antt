use Rattle.std.proofs.Common.{◌≡◌, ◌∙◌, subst, arith, below_more, Some, slice_get}
use Rattle.closing.specs.declared.ranked.RankedPair.{RankedPair}
use Rattle.closing.specs.inner.Told.{IsSound}
use Rattle.closing.proofs.Reading.{below-length, read}
use Rattle.closing.proofs.checking.are_sound.Goals as goal

pub loop-ranked-preserved : goal.loop-ranked-preserved
loop-ranked-preserved c =
    below_more (λ k. (p : RankedPair) → slice_get c.args.list.now k ≡ Some p → IsSound c.args.tables.now c.args.list.now p) _ c.loop-ranked.invariant
    (λ p at. subst (λ (q : RankedPair). IsSound c.args.tables.now c.args.list.now q) (c.ranked-item.is ∙ read c.args.list.now _ p _ at)
    (c.is_sound.ensures c.if-not-is_sound.false))

pub returns : goal.returns
returns c = λ t k p at. c.loop-ranked.invariant k (omega (arith, below-length c.args.list.now k p at, c.loop-ranked-test.false)) p at
