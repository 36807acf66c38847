-- What is left of a choice of asks is nothing, so a tree that has more turns of it offers the same again.
use Rattle.std.proofs.Common.{◌≡◌, ◌-◌, ◌<◌, ℕ, true, true≢false, nat_lt, inl, inr, [], length, refl, sym, ap, ◌∙◌, arith, subst, if◌then◌else◌}
use Rattle.std.proofs.Common.{le-ltb, lt-ltb, Bor}
use Rattle.std.proofs.lemmas.Bool.{cases_lt, ne_eqb}
use Rattle.cursors.specs.declared.part.Part.{Part}
use Rattle.cursors.specs.declared.part.PartPlace.TheVariants as place
use Rattle.scenario.specs.declared.tree.Scenario.{Scenario}
use Rattle.scenario.specs.Tree.{Tree, Trees, One, Seq, Any, Times, Both, Nil, Cons, plain}
use Rattle.cursors.specs.Cursors.{Nothing, InTimes, first_part, progress_at, tree_left}
use Rattle.cursors.proofs.Cursors.{progress-is}
use Rattle.scenario.proofs.Flat.{append-neither}
use Rattle.scenario.specs.Taking.{ends, left, left_in_turn, left_of_one, offers, offers_of_all}
use Rattle.cursors.specs.inner.Parts.{part_left, parts_of, place_of}
use Rattle.cursors.specs.inner.Turns.{all_asks, is_choice}
use Rattle.cursors.specs.Repeats.{Repeats}

left-asks : (ts : Trees) (i : ℕ) → all_asks ts ≡ true → i < length (offers_of_all ts) → left_of_one ts i ≡ Seq Nil
left-asks Nil i asks low = refl
left-asks (Cons (One a) ts) i asks low =
    elim (cases_lt i 1) [
      | inl h ↦ ap (λ b. if b then Seq Nil else left_of_one ts (i - 1)) (lt-ltb i 1 h)
      | inr h ↦
          ap (λ b. if b then Seq Nil else left_of_one ts (i - 1)) (le-ltb i 1 h)
          ∙ left-asks ts (i - 1) asks (omega (arith, low, h))
    ]
left-asks (Cons (Seq us) ts) i asks low = absurd (true≢false (sym asks))
left-asks (Cons (Any us) ts) i asks low = absurd (true≢false (sym asks))
left-asks (Cons (Times n t) ts) i asks low = absurd (true≢false (sym asks))
left-asks (Cons (Both us) ts) i asks low = absurd (true≢false (sym asks))

-- nothing is left of a choice
left-choice : (t : Tree) (i : ℕ) → is_choice t ≡ true → i < length (offers t) → left t i ≡ Seq Nil
left-choice (One a) i choice low = refl
left-choice (Seq ts) i choice low = absurd (true≢false (sym choice))
left-choice (Any ts) i choice low = left-asks ts i choice low
left-choice (Times n t) i choice low = absurd (true≢false (sym choice))
left-choice (Both ts) i choice low = absurd (true≢false (sym choice))

-- a turn of a tree offers what the tree offers
offers-turn : (n : ℕ) (t : Tree) → 0 < n → offers (Times n t) ≡ offers t
offers-turn n t more = ap (λ b. if b then [] else offers t) (ne_eqb n 0 (λ e. absurd (omega (arith, more, e))))

-- also behind a turn that is over
offers-next : (n : ℕ) (t : Tree) → 0 < n → offers (Seq (Cons (Seq Nil) (Cons (Times n t) Nil))) ≡ offers t
offers-next n t more = append-neither (ends (Times n t)) (offers (Times n t)) ∙ offers-turn n t more

taken-turn : (n : ℕ) (t : Tree) (i : ℕ) → 1 < n → is_choice t ≡ true → i < length (offers t) → offers (left (Times n t) i) ≡ offers t
taken-turn n t i more choice low =
    ap (λ u. offers (Seq (Cons u (Cons (Times (n - 1) t) Nil)))) (left-choice t i choice low)
    ∙ offers-next (n - 1) t (omega (arith, more))

pub repeats-Times : (n : ℕ) (t : Tree) → 1 < n → is_choice t ≡ true → Repeats (Times n t)
repeats-Times n t more choice i low =
    let same = offers-turn n t (omega (arith, more)) in
    taken-turn n t i more choice (subst (λ xs. i < length xs) same low) ∙ sym same

-- a turn that is over, before so many more
pub repeats-turns : (n : ℕ) (t : Tree) → 1 < n → is_choice t ≡ true → Repeats (Seq (Cons (Seq Nil) (Cons (Times n t) Nil)))
repeats-turns n t more choice i low =
    let some : 0 < n = omega (arith, more) in
    let same = offers-next n t some in
    let there : i < length (offers t) = subst (λ xs. i < length xs) same low in
    let turn : nat_lt i (length (offers (Times n t))) ≡ true =
    lt-ltb i (length (offers (Times n t))) (subst (λ xs. i < length xs) (sym (offers-turn n t some)) there) in
    let turns : Trees = Cons (Times n t) Nil in
    ap (λ b. offers (Seq (if b then Cons (Seq Nil) turns else left_in_turn turns (i - 0)))) (le-ltb i 0 (omega arith))
    ∙ ap (λ j. offers (Seq (left_in_turn turns j))) (omega arith)
    ∙ ap (λ b. offers (Seq (if b then Cons (left (Times n t) i) Nil else Nil))) turn
    ∙ append-neither (ends (left (Times n t) i)) (offers (left (Times n t) i))
    ∙ taken-turn n t i more choice there
    ∙ sym same

-- what is left of a part in such a turn
pub left-turns : {A B : Type 0} (p : Part A B) (n : ℕ) (t : Bor (Scenario A)) → place_of p ≡ place.InTimes n t →
    first_part (parts_of p) ≡ Nothing → part_left p ≡ Seq (Cons (Seq Nil) (Cons (Times n (plain t.now)) Nil))
left-turns p n t at over =
    ap tree_left (progress-is p ∙ ap (λ to. progress_at to (parts_of p)) at ∙ ap (λ q. InTimes q n (plain t.now)) over)
