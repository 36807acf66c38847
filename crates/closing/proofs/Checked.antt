-- What the check looks at makes a list of ranked pairs one that no step leaves.
use Rattle.std.proofs.Common.{◌≡◌, ℕ, ◌<◌, List, refl, ap, sym, subst, ◌∙◌, inl, inr, Some, slice_get, length, Contains, IsTrue, arith}
use Rattle.std.proofs.lemmas.Bool.{cases_lt, cases_eq}
use Rattle.std.specs.Global.{Vec}
use Rattle.tables.specs.Tables.{Tables}
use Rattle.pairs.specs.declared.pair.Pair.{Pair}
use Rattle.pairs.specs.declared.steps.Party.{Party}
use Rattle.pairs.specs.declared.steps.Party.TheVariants.{Second, Third}
use Rattle.pairs.specs.declared.steps.Rule.{Rule}
use Rattle.pairs.specs.declared.steps.Sight.{Sight}
use Rattle.pairs.specs.declared.steps.Sight.TheVariants.{Seen}
use Rattle.pairs.specs.Pairs.{fits}
use Rattle.closing.specs.declared.following.Followed.{Followed}
use Rattle.closing.specs.declared.numbering.ViewNumbers.{ViewNumbers}
use Rattle.closing.specs.declared.numbering.View.{View}
use Rattle.closing.specs.declared.ranked.RankedPair.{RankedPair}
use Rattle.closing.specs.inner.Numbered.{AreNumbered, IsNumberOfView, first_view, second_view}
use Rattle.closing.specs.inner.Told.{AreSound, AreTold, GluesAt, IsTold, Keeps, KeepsOther, LeadsInto, Stays}
use Rattle.closing.specs.Closed.{Meet, AreAlike, glued}
use Rattle.closing.specs.Ranked.{ranked, opened_ranked, Sees, SeesAtHome, Ranked}
use Rattle.closing.proofs.Reading.{contained-at, below-length}

-- a view has one number
pub one-number : (views : List View) (v w : View) (m n : ℕ) → v ≡ w → IsNumberOfView views v m → IsNumberOfView views w n → m ≡ n
one-number views v w m n same at_m at_n =
    elim (cases_eq m n) [
      | inl here ↦ here
      | inr differ ↦ elim (cases_lt m n) [
        | inl before ↦ absurd (at_n.first m before (at_m.there ∙ ap (λ x. Some x) same))
        | inr after ↦ absurd (at_m.first n (omega (arith, after, differ)) (at_n.there ∙ ap (λ x. Some x) (sym same)))
      ]
    ]

module _ (tables : Tables) (list : List RankedPair) (numbers : ViewNumbers) (steps : List (Vec Followed)) (sound : AreSound tables list)
    (numbered : AreNumbered list numbers.views.items numbers.firsts.items numbers.seconds.items numbers.spans.items)
    (told : AreTold tables list steps) (all_glued : (place : ℕ) → place < length list → GluesAt list numbers steps place) where
  -- three ranked pairs that meet are glued
  meet-glues : (p q r : RankedPair) (rule : Rule) (one other : Party) (p2 q2 : Pair) → Contains list p → Contains list q → Contains list r →
      Meet p.pair q.pair r.pair → AreAlike one other → Sees tables rule p.pair one p2 → Sees tables rule q.pair other q2 →
      p2.shared ≡ q2.shared → p2.first ≡ q2.first → KeepsOther list q one other (record { rule = rule; concerned = other; after = q2 }) ×
      (IsTrue (fits (glued p2 q2 r.pair)) → Contains list (ranked (glued p2 q2 r.pair) r.order))
  meet-glues p q r rule one other p2 q2 has_p has_q has_r meet alike sees_p sees_q shared first =
      let k = contained-at list p has_p in
      let j = contained-at list q has_q in
      let l = contained-at list r has_r in
      let mine = told k.0 p k.1 in
      let theirs = told j.0 q j.1 in
      let f = contained-at mine.0.items (record { rule = rule; concerned = one; after = p2 })
      (subst (λ (s : Sight). IsTold mine.0.items rule s) sees_p.1 (mine.2.told rule sees_p.0)) in
      let g = contained-at theirs.0.items (record { rule = rule; concerned = other; after = q2 })
      (subst (λ (s : Sight). IsTold theirs.0.items rule s) sees_q.1 (theirs.2.told rule sees_q.0)) in
      let first_p = numbered.first k.0 p k.1 in
      let first_q = numbered.first j.0 q j.1 in
      let first_r = numbered.first l.0 r l.1 in
      let second_p = numbered.second k.0 p k.1 in
      let second_q = numbered.second j.0 q j.1 in
      let second_r = numbered.second l.0 r l.1 in
      let span_q = numbered.within j.0 first_q.0 first_q.1 in
      let span_r = numbered.within l.0 first_r.0 first_r.1 in
      let same_first : first_q.0 ≡ first_p.0 =
      one-number numbers.views.items (first_view q.pair) (first_view p.pair) _ _ (λ i. record { shared = sym meet.shared i; side = sym meet.first i })
      first_q.2 first_p.2 in
      let same_between : first_r.0 ≡ second_p.0 =
      one-number numbers.views.items (first_view r.pair) (second_view p.pair) _ _
      (λ i. record { shared = sym meet.shared_too i; side = sym meet.second i }) first_r.2 second_p.2 in
      let same_second : second_r.0 ≡ second_q.0 =
      one-number numbers.views.items (second_view r.pair) (second_view q.pair) _ _
      (λ i. record { shared = (sym meet.shared_too ∙ meet.shared) i; side = sym meet.third i }) second_r.2 second_q.2 in
      all_glued k.0 (below-length list k.0 p k.1) p mine.0 first_p.0 second_p.0 span_q.0 span_r.0 k.1 mine.1 first_p.1 second_p.1
      (ap (λ n. slice_get numbers.spans.items n) (sym same_first) ∙ span_q.1) (ap (λ n. slice_get numbers.spans.items n) (sym same_between) ∙ span_r.1)
      j.0 span_q.2 span_q.3 q theirs.0 second_q.0 j.1 theirs.1 second_q.1 meet.apart f.0 _ f.1 g.0 _ g.1 (refl, shared, first)
      l.0 r span_r.2 span_r.3 (second_r.1 ∙ ap (λ n. Some n) same_second) l.1 alike

  -- what is seen leads to these
  step-told : (r : RankedPair) (rule : Rule) (concerned : Party) (q : Pair) → Contains list r → Sees tables rule r.pair concerned q →
      LeadsInto list r (record { rule = rule; concerned = concerned; after = q })
  step-told r rule concerned q has sees =
      let at = contained-at list r has in
      let mine = told at.0 r at.1 in
      let f = contained-at mine.0.items (record { rule = rule; concerned = concerned; after = q })
      (subst (λ (s : Sight). IsTold mine.0.items rule s) sees.1 (mine.2.told rule sees.0)) in
      mine.2.leads f.0 _ f.1

  home-told : (r : RankedPair) (concerned : Party) (q : Pair) → Contains list r → SeesAtHome tables r.pair concerned q → Stays list r (Seen concerned q)
  home-told r concerned q has sees =
      let at = contained-at list r has in
      subst (λ (s : Sight). Stays list r s) sees.1 ((sound at.0 r at.1).home_data sees.0)

  checked-ranked : Contains list opened_ranked → Ranked tables list
  checked-ranked opened = record {
    opened = opened;
    turned = λ r has. (let at = contained-at list r has in (sound at.0 r at.1).turned);
    steps = step-told;
    home_data = home-told;
    unconcerned = λ p q r rule p2 q2 has_p has_q has_r meet sees_p sees_q shared first.
        (meet-glues p q r rule Second Third p2 q2 has_p has_q has_r meet tt sees_p sees_q shared first).0;
    glue = λ p q r rule one other p2 q2 has_p has_q has_r meet alike sees_p sees_q shared first.
        (meet-glues p q r rule one other p2 q2 has_p has_q has_r meet alike sees_p sees_q shared first).1;
  }

  pub checked-kept : Contains list opened_ranked → Keeps tables list steps
  checked-kept opened = record { ranked = checked-ranked opened; sound = sound; told = told }
