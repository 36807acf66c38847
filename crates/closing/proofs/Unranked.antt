-- The pairs of ranked ones that no step leaves are closed.
use Rattle.std.proofs.Common.{◌≡◌, List, [], ◌∷◌, refl, sym, subst, ◌∙◌, ap, Bool, true, false, not, ◌&&◌, Contains, IsTrue}
use Rattle.std.specs.Global.{Vec}
use Rattle.tables.specs.Tables.{Tables}
use Rattle.pairs.specs.declared.pair.Pair.{Pair}
use Rattle.pairs.specs.declared.steps.Party.{Party}
use Rattle.pairs.specs.declared.steps.Party.TheVariants.{Nobody, First, Second, Third}
use Rattle.pairs.specs.declared.steps.Rule.{Rule}
use Rattle.pairs.specs.declared.steps.Sight.{Sight}
use Rattle.pairs.specs.declared.steps.Sight.TheVariants.{Unmoved, Lost, Spoilt, Seen}
use Rattle.pairs.specs.Pairs.{swapped, fits}
use Rattle.control.specs.LineEffect.{is_reader, is_writer}
use Rattle.pairs.specs.Sights.{sight, home_data_seen}
use Rattle.closing.specs.declared.following.Followed.{Followed}
use Rattle.closing.specs.declared.ranked.RankedPair.{RankedPair}
use Rattle.closing.specs.inner.Told.{IsTold, IsFollowedBy, IsSound, Keeps, Stays}
use Rattle.closing.specs.Closed.{StaysIn, Meet, AreAlike, KeepsUnconcerned, are_apart, glued, Closed}
use Rattle.closing.specs.Ranked.{ArePairsOf, LeadsTo, turned_pair, order_after, ranked}
use Rattle.closing.proofs.Reading.{contained-at}

-- marks are apart in either order
apart-both : (x y : Bool) → (x && y) ≡ (y && x)
apart-both true true = refl
apart-both true false = refl
apart-both false true = refl
apart-both false false = refl

apart-turned : (xs ys : List Bool) → are_apart xs ys ≡ are_apart ys xs
apart-turned [] [] = refl
apart-turned [] (y ∷ ys) = refl
apart-turned (x ∷ xs) [] = refl
apart-turned (x ∷ xs) (y ∷ ys) = λ i. not (apart-both x y i) && apart-turned xs ys i

module _ (tables : Tables) (list : List RankedPair) (steps : List (Vec Followed)) (kept : Keeps tables list steps) (pairs : List Pair)
    (same : ArePairsOf list pairs) where
  -- what leads to one of the ranked pairs is one of the pairs
  leads-in : (concerned : Party) (r : RankedPair) → LeadsTo list concerned r → StaysIn pairs (Seen concerned r.pair)
  leads-in Nobody r h = same.all r h
  leads-in First r h = same.all r h
  leads-in Second r h = same.all r h
  leads-in Third r h = tt

  told-stays : (told : List Followed) (r : RankedPair) (rule : Rule) (s : Sight) → IsFollowedBy tables list r told → IsTold told rule s → StaysIn pairs s
  told-stays told r rule Unmoved by h = tt
  told-stays told r rule Lost by h = h
  told-stays told r rule (Spoilt Nobody) by h = h
  told-stays told r rule (Spoilt First) by h = h
  told-stays told r rule (Spoilt Second) by h = h
  told-stays told r rule (Spoilt Third) by h = tt
  told-stays told r rule (Seen concerned q) by h =
      let at = contained-at told _ h in leads-in concerned (ranked q (order_after rule r.order)) (by.leads at.0 _ at.1)

  home-stays : (r : RankedPair) (s : Sight) → Stays list r s → StaysIn pairs s
  home-stays r Unmoved h = tt
  home-stays r Lost h = h
  home-stays r (Spoilt Nobody) h = h
  home-stays r (Spoilt First) h = h
  home-stays r (Spoilt Second) h = h
  home-stays r (Spoilt Third) h = tt
  home-stays r (Seen concerned q) h = leads-in concerned (ranked q r.order) h

  sound-at : (r : RankedPair) → Contains list r → IsSound tables list r
  sound-at r has = let at = contained-at list r has in kept.sound at.0 r at.1

  steps-stay : (r : RankedPair) (rule : Rule) (guess : Bool) → Contains list r → StaysIn pairs (sight tables rule guess r.pair)
  steps-stay r rule guess has =
      let at = contained-at list r has in
      let mine = kept.told at.0 r at.1 in
      told-stays mine.0.items r rule (sight tables rule guess r.pair) mine.2 (mine.2.told rule guess)

  -- the pair of the cache that a step doesn't concern, whichever of the two that is
  keeps-unconcerned : (p q r : RankedPair) (rule : Rule) (t u : Bool) (one other : Party) (p2 q2 : Pair) → Contains list p → Contains list q →
      Contains list r → Meet p.pair q.pair r.pair → AreAlike one other → sight tables rule t p.pair ≡ Seen one p2 → sight tables rule u q.pair ≡ Seen other q2 →
      p2.shared ≡ q2.shared → p2.first ≡ q2.first → KeepsUnconcerned pairs one other p2 q2
  keeps-unconcerned p q r rule t u Second Third p2 q2 has_p has_q has_r meet alike sees_p sees_q shared first =
      same.all _ (kept.ranked.unconcerned p q r rule p2 q2 has_p has_q has_r meet (t, sees_p) (u, sees_q) shared first)
  keeps-unconcerned p q r rule t u Third Second p2 q2 has_p has_q has_r meet alike sees_p sees_q shared first =
      same.all _ (kept.ranked.unconcerned q p (turned_pair r) rule q2 p2 has_q has_p (kept.ranked.turned r has_r) (record {
        shared = sym meet.shared;
        shared_too = sym meet.shared ∙ meet.shared_too;
        first = sym meet.first;
        second = meet.third;
        third = meet.second;
        apart = subst (λ (b : Bool). IsTrue b) (apart-turned p.pair.first_names q.pair.first_names) meet.apart;
      }) (u, sees_q) (t, sees_p) (sym shared) (sym first))
  keeps-unconcerned p q r rule t u Nobody other p2 q2 has_p has_q has_r meet alike sees_p sees_q shared first = tt
  keeps-unconcerned p q r rule t u First other p2 q2 has_p has_q has_r meet alike sees_p sees_q shared first = tt
  keeps-unconcerned p q r rule t u Second Nobody p2 q2 has_p has_q has_r meet alike sees_p sees_q shared first = tt
  keeps-unconcerned p q r rule t u Second First p2 q2 has_p has_q has_r meet alike sees_p sees_q shared first = tt
  keeps-unconcerned p q r rule t u Second Second p2 q2 has_p has_q has_r meet alike sees_p sees_q shared first = tt
  keeps-unconcerned p q r rule t u Third Nobody p2 q2 has_p has_q has_r meet alike sees_p sees_q shared first = tt
  keeps-unconcerned p q r rule t u Third First p2 q2 has_p has_q has_r meet alike sees_p sees_q shared first = tt
  keeps-unconcerned p q r rule t u Third Third p2 q2 has_p has_q has_r meet alike sees_p sees_q shared first = tt

  -- three of the pairs that meet are those of three ranked ones
  meets : (p q r : Pair) (a b c : RankedPair) → a.pair ≡ p → b.pair ≡ q → c.pair ≡ r → Meet p q r → Meet a.pair b.pair c.pair
  meets p q r a b c ea eb ec meet =
      subst (λ (x : Pair). Meet x b.pair c.pair) (sym ea) (subst (λ (x : Pair). Meet p x c.pair) (sym eb) (subst (λ (x : Pair). Meet p q x) (sym ec) meet))

  sees : (p : Pair) (a : RankedPair) (rule : Rule) (t : Bool) (s : Sight) → a.pair ≡ p → sight tables rule t p ≡ s → sight tables rule t a.pair ≡ s
  sees p a rule t s e h = ap (λ (x : Pair). sight tables rule t x) e ∙ h

  pub pairs-closed : Closed tables pairs
  pairs-closed = record {
    opened = same.all _ kept.ranked.opened;
    turned = λ p has. (let a = same.only p has in
        subst (λ (x : Pair). Contains pairs (swapped x)) a.2 (same.all _ (kept.ranked.turned a.0 a.1)));
    single = λ p has. (let a = same.only p has in subst (λ (x : Pair). is_writer x.first.state ≡ true → is_reader x.second.state ≡ false) a.2
        (sound-at a.0 a.1).single);
    steps = λ p rule guess has. (let a = same.only p has in
        subst (λ (x : Pair). StaysIn pairs (sight tables rule guess x)) a.2 (steps-stay a.0 rule guess a.1));
    home_data = λ p third_shares has. (let a = same.only p has in
        subst (λ (x : Pair). StaysIn pairs (home_data_seen tables third_shares x)) a.2
        (home-stays a.0 (home_data_seen tables third_shares a.0.pair) ((sound-at a.0 a.1).home_data third_shares)));
    unconcerned = λ p q r rule t u one other p2 q2 has_p has_q has_r meet alike sees_p sees_q shared first.
        (let a = same.only p has_p in
        let b = same.only q has_q in
        let c = same.only r has_r in
        keeps-unconcerned a.0 b.0 c.0 rule t u one other p2 q2 a.1 b.1 c.1 (meets p q r a.0 b.0 c.0 a.2 b.2 c.2 meet) alike
        (sees p a.0 rule t _ a.2 sees_p) (sees q b.0 rule u _ b.2 sees_q) shared first);
    glue = λ p q r rule t u one other p2 q2 has_p has_q has_r meet alike sees_p sees_q shared first fit.
        (let a = same.only p has_p in
        let b = same.only q has_q in
        let c = same.only r has_r in
        subst (λ (x : Pair). Contains pairs (glued p2 q2 x)) c.2 (same.all _ (kept.ranked.glue a.0 b.0 c.0 rule one other p2 q2 a.1 b.1 c.1
        (meets p q r a.0 b.0 c.0 a.2 b.2 c.2 meet) alike (t, sees p a.0 rule t _ a.2 sees_p) (u, sees q b.0 rule u _ b.2 sees_q) shared first
        (subst (λ (x : Pair). IsTrue (fits (glued p2 q2 x))) (sym c.2) fit))));
  }
