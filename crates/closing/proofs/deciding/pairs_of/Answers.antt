use Rattle.std.proofs.Common.{◌≡◌, ◌∙◌, ◌+◌, ap, arith, sym, subst, Contains, List, [], ◌∷◌, ◌++◌}
use Rattle.std.specs.Global.{Vec}
use Rattle.pairs.specs.declared.pair.Pair.{Pair}
use Rattle.closing.specs.declared.ranked.RankedPair.{RankedPair}
use Rattle.closing.proofs.Reading.{below-length, contained-at, read}
use Rattle.closing.proofs.Listed.{HasFirst, ComesFrom, contains-last, contains-still, comes-more, first-more}
use Rattle.closing.proofs.deciding.pairs_of.Goals.{then-not-is_found+in_ok-add+in_ok-push, else-not-is_found}
use Rattle.closing.proofs.deciding.pairs_of.Goals as goal

pub loop-ranked-init : goal.loop-ranked-init
loop-ranked-init c = record {
  all = λ k low r at. absurd (omega (arith, low));
  only = λ p has. absurd (let none : Contains [] p = subst (λ (ps : List Pair). Contains ps p) c.new-pairs.ensures.items has in omega (arith, none.1));
}

pub loop-ranked-preserved : goal.loop-ranked-preserved
loop-ranked-preserved c =
    let list : List RankedPair = c.args.list.now in
    let item : RankedPair = c.ranked-item.result in
    let old : List Pair = c.loop-ranked.pairs.items in
    let here : Contains list item = (c.loop-ranked.ranked-index, c.loop-ranked-test.true, sym c.ranked-item.is) in
    elim c.if-not-is_found.branch [
      | then-not-is_found+in_ok-add+in_ok-push w ↦
          let grown : c.if-not-is_found.pairs.items ≡ old ++ item.pair ∷ [] = ap (λ (v : Vec Pair). v.items) w.pairs-is ∙ w.in_ok-push.ensures.items in
          record {
            all = subst (λ (ps : List Pair). HasFirst list (c.loop-ranked.ranked-index + 1) ps) (sym grown)
                (first-more list c.loop-ranked.ranked-index old (old ++ item.pair ∷ []) item c.loop-ranked.invariant.all (contains-still old item.pair)
                (contains-last old item.pair) (λ r at. c.ranked-item.is ∙ read list c.loop-ranked.ranked-index r item at));
            only = subst (λ (ps : List Pair). ComesFrom list ps) (sym grown) (comes-more list old item c.loop-ranked.invariant.only here);
          }
      | else-not-is_found w ↦
          let same : c.if-not-is_found.pairs.items ≡ old = ap (λ (v : Vec Pair). v.items) w.pairs-is in
          let has : Contains old item.pair =
          subst (λ (ps : List Pair). Contains ps item.pair) c.deref.ensures.value (c.is_found.ensures w.if-not-is_found.false) in
          record {
            all = subst (λ (ps : List Pair). HasFirst list (c.loop-ranked.ranked-index + 1) ps) (sym same)
                (first-more list c.loop-ranked.ranked-index old old item c.loop-ranked.invariant.all (λ p h. h) has
                (λ r at. c.ranked-item.is ∙ read list c.loop-ranked.ranked-index r item at));
            only = subst (λ (ps : List Pair). ComesFrom list ps) (sym same) c.loop-ranked.invariant.only;
          }
    ]

pub returns : goal.returns
returns c = record {
  all = λ r has. (let at = contained-at c.args.list.now r has in
      c.loop-ranked.invariant.all at.0 (omega (arith, below-length c.args.list.now at.0 r at.1, c.loop-ranked-test.false)) r at.1);
  only = c.loop-ranked.invariant.only;
}
