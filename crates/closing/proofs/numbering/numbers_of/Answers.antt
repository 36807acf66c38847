use Rattle.std.proofs.Common.{◌≡◌, ◌∙◌, ℕ, sym, ap, subst, arith, below_more, Some, slice_get, length, if◌then◌else◌, ◌++◌, ◌∷◌, []}
use Rattle.closing.specs.declared.numbering.View.{View}
use Rattle.closing.specs.declared.ranked.RankedPair.{RankedPair}
use Rattle.closing.specs.inner.Numbered.{IsNumberOfView, first_view, second_view}
use Rattle.closing.proofs.Reading.{below-length, read, get-before, get-last, length-push}
use Rattle.closing.proofs.numbering.numbers_of.Goals as goal

pub loop-ranked-preserved : goal.loop-ranked-preserved
loop-ranked-preserved c =
    let grown : c.push.new.self.items ≡ c.loop-ranked.numbers.items ++ c.in-Some.number ∷ [] = c.in_ok-push-in-Some.ensures.items in
    record {
      count = ap (λ xs. length xs) grown ∙ omega (arith, c.loop-ranked.invariant.count, length-push c.loop-ranked.numbers.items c.in-Some.number);
      known = below_more (λ k. (p : RankedPair) → slice_get c.args.list.now k ≡ Some p →
          (n : ℕ) × (slice_get c.push.new.self.items k ≡ Some n) × IsNumberOfView c.args.views.now (if c.args.second then second_view p.pair else first_view p.pair) n) _
          (λ k low p at. (let old = c.loop-ranked.invariant.known k low p at in (
            old.0,
            ap (λ xs. slice_get xs k) grown ∙ get-before c.loop-ranked.numbers.items c.in-Some.number k (omega (arith, low, c.loop-ranked.invariant.count))
                ∙ old.1,
            old.2,
          )))
          (λ p at. (
            c.in-Some.number,
            ap (λ xs. slice_get xs c.loop-ranked.ranked-index) grown
                ∙ get-last c.loop-ranked.numbers.items c.in-Some.number c.loop-ranked.ranked-index (sym c.loop-ranked.invariant.count),
            subst (λ (v : View). IsNumberOfView c.args.views.now v c.in-Some.number)
                (c.of.ensures ∙ ap (λ (q : RankedPair). if c.args.second then second_view q.pair else first_view q.pair) (c.ranked-item.is ∙ read c.args.list.now _ p _ at))
                c.in-Some.ensures,
          ));
    }

pub returns : goal.returns
returns c = λ k p at. c.loop-ranked.invariant.known k (omega (arith, below-length c.args.list.now k p at, c.loop-ranked-test.false)) p at
