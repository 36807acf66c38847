use Rattle.std.proofs.Common.{◌≡◌, ◌∙◌, subst, arith, below_more, Some, true, slice_get}
use Rattle.closing.specs.declared.ranked.RankedPair.{RankedPair}
use Rattle.closing.specs.Blamed as blamed
use Rattle.closing.proofs.Reading.{below-length, read, contained-at}
use Rattle.closing.proofs.blaming.serves_asks.Goals as goal

pub loop-ranked-preserved : goal.loop-ranked-preserved
loop-ranked-preserved c =
    below_more (λ k. (r : RankedPair) → slice_get c.args.list.now k ≡ Some r → blamed.is_silent r.pair ≡ true →
    blamed.serves_asks c.args.tables.now r.pair.first.state ≡ true) _ c.loop-ranked.invariant
    (λ r at. subst (λ (x : RankedPair). blamed.is_silent x.pair ≡ true → blamed.serves_asks c.args.tables.now x.pair.first.state ≡ true)
    (c.ranked-item.is ∙ read c.args.list.now _ r _ at) (c.is_ready.ensures c.if-not-is_ready.false))

pub returns : goal.returns
returns c = λ t r has.
    let at = contained-at c.args.list.now r has in
    c.loop-ranked.invariant at.0 (omega (arith, below-length c.args.list.now at.0 r at.1, c.loop-ranked-test.false)) r at.1
