use Rattle.std.proofs.Common.{◌≡◌, ◌∙◌, sym, ap, subst, arith, below_more, Option, Some, IfSome, slice_get, length, ◌++◌, ◌∷◌, []}
use Rattle.std.specs.Global.{Vec}
use Rattle.closing.specs.declared.ranked.RankedPair.{RankedPair}
use Rattle.closing.specs.declared.following.Followed.{Followed}
use Rattle.closing.specs.inner.Told.{IsFollowedBy}
use Rattle.closing.proofs.Reading.{below-length, read, get-before, get-last, length-push}
use Rattle.closing.proofs.checking.all_steps.Goals as goal

pub loop-ranked-preserved : goal.loop-ranked-preserved
loop-ranked-preserved c =
    let grown : c.push.new.self.items ≡ c.loop-ranked.all.items ++ c.in-Some.steps ∷ [] = c.in_ok-push-in-Some.ensures.items in
    record {
      count = ap (λ xs. length xs) grown ∙ omega (arith, c.loop-ranked.invariant.count, length-push c.loop-ranked.all.items c.in-Some.steps);
      known = below_more (λ k. (p : RankedPair) → slice_get c.args.list.now k ≡ Some p →
          (told : Vec Followed) × (slice_get c.push.new.self.items k ≡ Some told) × IsFollowedBy c.args.tables.now c.args.list.now p told.items) _
          (λ k low p at. (let old = c.loop-ranked.invariant.known k low p at in (
            old.0,
            ap (λ xs. slice_get xs k) grown ∙ get-before c.loop-ranked.all.items c.in-Some.steps k (omega (arith, low, c.loop-ranked.invariant.count))
                ∙ old.1,
            old.2,
          )))
          (λ p at. (
            c.in-Some.steps,
            ap (λ xs. slice_get xs c.loop-ranked.ranked-index) grown
                ∙ get-last c.loop-ranked.all.items c.in-Some.steps c.loop-ranked.ranked-index (sym c.loop-ranked.invariant.count),
            subst (λ (q : RankedPair). IsFollowedBy c.args.tables.now c.args.list.now q c.in-Some.steps.items) (c.ranked-item.is ∙ read c.args.list.now _ p _ at)
                (subst (λ (o : Option (Vec Followed)). IfSome o (λ v. IsFollowedBy c.args.tables.now c.args.list.now c.ranked-item.result v.items))
                c.in-Some.is c.in_ok-steps.ensures),
          ));
    }

pub returns : goal.returns
returns c = λ k p at. c.loop-ranked.invariant.known k (omega (arith, below-length c.args.list.now k p at, c.loop-ranked-test.false)) p at
