-- Offers and what is left reach exactly the words.
use Rattle.std.proofs.Common.{◌≡◌, ◌⊎◌, inl, inr, ℕ, zero, suc, ◌<◌, ◌+◌, ◌-◌, ◌==◌, Bool, true, false, ◌&&◌}
use Rattle.std.proofs.Common.{◌||◌, cond, List, [], ◌∷◌, ◌++◌, length, Some, slice_get, refl, sym, ap, ◌∙◌, subst, arith}
use Rattle.std.proofs.lemmas.Bool.Decides.{nat_tests}
use Rattle.std.proofs.lemmas.List.{append-nil}
use Rattle.base.specs.declared.step.CoreAsk.{CoreAsk}
use Rattle.scenario.specs.Tree.{Tree, Trees, One, Seq, Any, Times, Both, Nil, Cons}
use Rattle.scenario.specs.Taking.{ends, all_end, some_ends, offers, offers_in_turn, offers_of_all, left, left_in_turn, left_of_one, left_of_all}
use Rattle.scenario.specs.Words.{IsWord, IsJoined, IsWordOfOne, IsInterleaved, Interleaves, IsRepeated}
use Rattle.scenario.proofs.Fronts.{same-head, same-tail}
use Rattle.scenario.proofs.Places.{get_front, get_behind, is_below, isnt_below, by_test}

both-first : (a b : Bool) → (a && b) ≡ true → a ≡ true
both-first true b e = refl
both-first false b e = e

both-second : (a b : Bool) → (a && b) ≡ true → b ≡ true
both-second true b e = e
both-second false b e = absurd (cc e)

both-true : (a b : Bool) → a ≡ true → b ≡ true → (a && b) ≡ true
both-true a b e f = rw (e, f) refl

either-true : (a b : Bool) → (a || b) ≡ true → (a ≡ true) ⊎ (b ≡ true)
either-true true b e = inl refl
either-true false b e = inr e

first-true : (a b : Bool) → a ≡ true → (a || b) ≡ true
first-true a b e = rw e refl

second-true : (a b : Bool) → b ≡ true → (a || b) ≡ true
second-true true b e = refl
second-true false b e = e

repeats-nothing : (n : ℕ) (Is : List CoreAsk → Type 0) → Is [] → IsRepeated n Is []
repeats-nothing zero Is nothing = refl
repeats-nothing (suc n) Is nothing = ([], [], refl, nothing, repeats-nothing n Is nothing)

no-turns : (n : ℕ) (Is : List CoreAsk → Type 0) → (n == 0) ≡ true → IsRepeated n Is []
no-turns zero Is e = refl
no-turns (suc n) Is e = absurd (grind (arith, nat_tests))

nothing-front : (u v : List CoreAsk) → [] ≡ u ++ v → u ≡ []
nothing-front [] v e = refl
nothing-front (a ∷ u) v e = absurd (cc e)

nothing-behind : (u v : List CoreAsk) → [] ≡ u ++ v → v ≡ []
nothing-behind [] v e = sym e
nothing-behind (a ∷ u) v e = absurd (cc e)

-- where the tree may end, the empty list is a word
mutual
  pub nothing-in : (t : Tree) → ends t ≡ true → IsWord t []
  nothing-in (One ask) e = absurd (cc e)
  nothing-in (Seq ts) e = nothing-joined ts e
  nothing-in (Any ts) e = nothing-of_one ts e
  nothing-in (Times n t) e = elim (either-true (n == 0) (ends t) e) [
    | inl none ↦ no-turns n (IsWord t) none
    | inr end ↦ repeats-nothing n (IsWord t) (nothing-in t end)
  ]
  nothing-in (Both ts) e = nothing-interleaved ts e

  nothing-joined : (ts : Trees) → all_end ts ≡ true → IsJoined ts []
  nothing-joined Nil e = refl
  nothing-joined (Cons t ts) e = ([], [], refl, nothing-in t (both-first (ends t) (all_end ts) e), nothing-joined ts (both-second (ends t) (all_end ts) e))

  nothing-of_one : (ts : Trees) → some_ends ts ≡ true → IsWordOfOne ts []
  nothing-of_one Nil e = absurd (cc e)
  nothing-of_one (Cons t ts) e = elim (either-true (ends t) (some_ends ts) e) [
    | inl here ↦ inl (nothing-in t here)
    | inr behind ↦ inr (nothing-of_one ts behind)
  ]

  nothing-interleaved : (ts : Trees) → all_end ts ≡ true → IsInterleaved ts []
  nothing-interleaved Nil e = refl
  nothing-interleaved (Cons t ts) e =
      ([], [], nothing-in t (both-first (ends t) (all_end ts) e), nothing-interleaved ts (both-second (ends t) (all_end ts) e), (refl, refl))

-- and only there
mutual
  pub nothing-out : (t : Tree) → IsWord t [] → ends t ≡ true
  nothing-out (One ask) w = absurd (cc w)
  nothing-out (Seq ts) w = joined-ends ts w
  nothing-out (Any ts) w = of_one-ends ts w
  nothing-out (Times zero t) w = refl
  nothing-out (Times (suc n) t) w = second-true (suc n == 0) (ends t) (nothing-out t (subst (IsWord t) (nothing-front w.0 w.1 w.2) w.3))
  nothing-out (Both ts) w = interleaved-ends ts w

  joined-ends : (ts : Trees) → IsJoined ts [] → all_end ts ≡ true
  joined-ends Nil w = refl
  joined-ends (Cons t ts) w =
      both-true (ends t) (all_end ts) (nothing-out t (subst (IsWord t) (nothing-front w.0 w.1 w.2) w.3))
      (joined-ends ts (subst (IsJoined ts) (nothing-behind w.0 w.1 w.2) w.4))

  of_one-ends : (ts : Trees) → IsWordOfOne ts [] → some_ends ts ≡ true
  of_one-ends Nil w = absurd w
  of_one-ends (Cons t ts) (inl w) = first-true (ends t) (some_ends ts) (nothing-out t w)
  of_one-ends (Cons t ts) (inr w) = second-true (ends t) (some_ends ts) (of_one-ends ts w)

  interleaved-ends : (ts : Trees) → IsInterleaved ts [] → all_end ts ≡ true
  interleaved-ends Nil w = refl
  interleaved-ends (Cons t ts) w =
      both-true (ends t) (all_end ts) (nothing-out t (subst (IsWord t) w.4.0 w.2)) (interleaved-ends ts (subst (IsInterleaved ts) w.4.1 w.3))

-- ---- an offer, and a word of what is left

-- an offer that is there is offer_below so many
pub offer_below : (os : List CoreAsk) (i : ℕ) (ask : CoreAsk) → slice_get os i ≡ Some ask → i < length os
offer_below [] i ask e = absurd (cc e)
offer_below (o ∷ os) zero ask e = omega arith
offer_below (o ∷ os) (suc i) ask e = let h = offer_below os i ask e in omega (arith, h)

only_offer : (o ask : CoreAsk) (i : ℕ) → slice_get (o ∷ []) i ≡ Some ask → o ≡ ask
only_offer o ask zero e = cc e
only_offer o ask (suc i) e = absurd (cc e)

-- what is offered behind a child that may be passed over
passed : (end : Bool) (os : List CoreAsk) (i : ℕ) (ask : CoreAsk) → slice_get (cond end os []) i ≡ Some ask
    → (end ≡ true) × (slice_get os i ≡ Some ask)
passed true os i ask e = (refl, e)
passed false os i ask e = absurd (cc e)

some_turn : (none : Bool) (os : List CoreAsk) (i : ℕ) (ask : CoreAsk) → slice_get (cond none [] os) i ≡ Some ask
    → (none ≡ false) × (slice_get os i ≡ Some ask)
some_turn true os i ask e = absurd (cc e)
some_turn false os i ask e = (refl, e)

-- a turn in front of the others
turn-first : (n : ℕ) (Is : List CoreAsk → Type 0) (u v : List CoreAsk) → (n == 0) ≡ false → Is u → IsRepeated (n - 1) Is v → IsRepeated n Is (u ++ v)
turn-first zero Is u v e here behind = absurd (cc e)
turn-first (suc n) Is u v e here behind = let m : suc n - 1 ≡ n = omega arith in (u, v, refl, here, subst (λ k. IsRepeated k Is v) m behind)

mutual
  pub ask-in : (t : Tree) (i : ℕ) (ask : CoreAsk) (w : List CoreAsk) → slice_get (offers t) i ≡ Some ask → IsWord (left t i) w → IsWord t (ask ∷ w)
  ask-in (One o) i ask w e word = rw (only_offer o ask i e, word) refl
  ask-in (Seq ts) i ask w e word = ask-joined ts i ask w e word
  ask-in (Any ts) i ask w e word = ask-of_one ts i ask w e word
  ask-in (Times n t) i ask w e word =
      let turn = some_turn (n == 0) (offers t) i ask e in
      let first = ask-in t i ask word.0 turn.1 word.3 in
      let others : IsRepeated (n - 1) (IsWord t) word.1 =
      subst (IsRepeated (n - 1) (IsWord t)) (sym (word.4.2 ∙ (ap (λ z. word.4.0 ++ z) word.4.4 ∙ append-nil word.4.0))) word.4.3 in
      subst (λ z. IsRepeated n (IsWord t) (ask ∷ z)) (sym word.2) (turn-first n (IsWord t) (ask ∷ word.0) word.1 turn.0 first others)
  ask-in (Both ts) i ask w e word = ask-interleaved ts i ask w e word

  ask-joined : (ts : Trees) (i : ℕ) (ask : CoreAsk) (w : List CoreAsk) → slice_get (offers_in_turn ts) i ≡ Some ask → IsJoined (left_in_turn ts i) w
      → IsJoined ts (ask ∷ w)
  ask-joined Nil i ask w e = λ word. absurd (cc e)
  ask-joined (Cons t ts) i ask w e =
      by_test
      (λ b. IsJoined (cond b (Cons (left t i) ts) (left_in_turn ts (i - length (offers t)))) w → IsJoined (Cons t ts) (ask ∷ w))
      i
      (length (offers t))
      (λ h word. (ask ∷ word.0, word.1, ap (λ z. ask ∷ z) word.2, ask-in t i ask word.0 (sym (get_front (offers t) _ i h) ∙ e) word.3, word.4))
      (λ h word.
      let other = passed (ends t) (offers_in_turn ts) (i - length (offers t)) ask (sym (get_behind (offers t) _ i h) ∙ e) in
      ([], ask ∷ w, refl, nothing-in t other.0, ask-joined ts (i - length (offers t)) ask w other.1 word))

  ask-of_one : (ts : Trees) (i : ℕ) (ask : CoreAsk) (w : List CoreAsk) → slice_get (offers_of_all ts) i ≡ Some ask → IsWord (left_of_one ts i) w
      → IsWordOfOne ts (ask ∷ w)
  ask-of_one Nil i ask w e = λ word. absurd (cc e)
  ask-of_one (Cons t ts) i ask w e =
      by_test
      (λ b. IsWord (cond b (left t i) (left_of_one ts (i - length (offers t)))) w → IsWordOfOne (Cons t ts) (ask ∷ w))
      i
      (length (offers t))
      (λ h word. inl (ask-in t i ask w (sym (get_front (offers t) _ i h) ∙ e) word))
      (λ h word. inr (ask-of_one ts (i - length (offers t)) ask w (sym (get_behind (offers t) _ i h) ∙ e) word))

  ask-interleaved : (ts : Trees) (i : ℕ) (ask : CoreAsk) (w : List CoreAsk) → slice_get (offers_of_all ts) i ≡ Some ask
      → IsInterleaved (left_of_all ts i) w → IsInterleaved ts (ask ∷ w)
  ask-interleaved Nil i ask w e = λ word. absurd (cc e)
  ask-interleaved (Cons t ts) i ask w e =
      by_test
      (λ b. IsInterleaved (cond b (Cons (left t i) ts) (Cons t (left_of_all ts (i - length (offers t))))) w → IsInterleaved (Cons t ts) (ask ∷ w))
      i
      (length (offers t))
      (λ h word. (ask ∷ word.0, word.1, ask-in t i ask word.0 (sym (get_front (offers t) _ i h) ∙ e) word.2, word.3, inl (word.0, refl, word.4)))
      (λ h word. (
        word.0,
        ask ∷ word.1,
        word.2,
        ask-interleaved ts (i - length (offers t)) ask word.1 (sym (get_behind (offers t) _ i h) ∙ e) word.3,
        inr (word.1, refl, word.4),
      ))

-- ---- and back: a word that isn't empty begins with an offer

abbrev Continued : Tree → CoreAsk → List CoreAsk → Type 0
Continued t ask w = (i : ℕ) × (slice_get (offers t) i ≡ Some ask) × IsWord (left t i) w

abbrev ContinuedInTurn : Trees → CoreAsk → List CoreAsk → Type 0
ContinuedInTurn ts ask w = (i : ℕ) × (slice_get (offers_in_turn ts) i ≡ Some ask) × IsJoined (left_in_turn ts i) w

abbrev ContinuedOfOne : Trees → CoreAsk → List CoreAsk → Type 0
ContinuedOfOne ts ask w = (i : ℕ) × (slice_get (offers_of_all ts) i ≡ Some ask) × IsWord (left_of_one ts i) w

abbrev ContinuedOfAll : Trees → CoreAsk → List CoreAsk → Type 0
ContinuedOfAll ts ask w = (i : ℕ) × (slice_get (offers_of_all ts) i ≡ Some ask) × IsInterleaved (left_of_all ts i) w

-- a turn that begins with an ask, before the others
abbrev ContinuedTurn : ℕ → Tree → CoreAsk → List CoreAsk → Type 0
ContinuedTurn n t ask w = ((n == 0) ≡ false) × (i : ℕ) × (slice_get (offers t) i ≡ Some ask)
    × (u v : List CoreAsk) × (w ≡ u ++ v) × IsWord (left t i) u × IsRepeated (n - 1) (IsWord t) v

-- the first offers, and the others behind them
in_front : (t : Tree) (ts : Trees) (i : ℕ) → i < length (offers t) → left_in_turn (Cons t ts) i ≡ Cons (left t i) ts
in_front t ts i h = ap (λ b. cond b (Cons (left t i) ts) (left_in_turn ts (i - length (offers t)))) (is_below i (length (offers t)) h)

behind_turn : (t : Tree) (ts : Trees) (i : ℕ) → left_in_turn (Cons t ts) (length (offers t) + i) ≡ left_in_turn ts i
behind_turn t ts i =
    let n = length (offers t) in
    ap (λ b. cond b (Cons (left t (n + i)) ts) (left_in_turn ts ((n + i) - n))) (isnt_below (n + i) n (omega arith)) ∙ ap (left_in_turn ts) (omega arith)

one_in_front : (t : Tree) (ts : Trees) (i : ℕ) → i < length (offers t) → left_of_one (Cons t ts) i ≡ left t i
one_in_front t ts i h = ap (λ b. cond b (left t i) (left_of_one ts (i - length (offers t)))) (is_below i (length (offers t)) h)

one_behind : (t : Tree) (ts : Trees) (i : ℕ) → left_of_one (Cons t ts) (length (offers t) + i) ≡ left_of_one ts i
one_behind t ts i =
    let n = length (offers t) in
    ap (λ b. cond b (left t (n + i)) (left_of_one ts ((n + i) - n))) (isnt_below (n + i) n (omega arith)) ∙ ap (left_of_one ts) (omega arith)

all_in_front : (t : Tree) (ts : Trees) (i : ℕ) → i < length (offers t) → left_of_all (Cons t ts) i ≡ Cons (left t i) ts
all_in_front t ts i h = ap (λ b. cond b (Cons (left t i) ts) (Cons t (left_of_all ts (i - length (offers t))))) (is_below i (length (offers t)) h)

all_behind : (t : Tree) (ts : Trees) (i : ℕ) → left_of_all (Cons t ts) (length (offers t) + i) ≡ Cons t (left_of_all ts i)
all_behind t ts i =
    let n = length (offers t) in
    ap (λ b. cond b (Cons (left t (n + i)) ts) (Cons t (left_of_all ts ((n + i) - n)))) (isnt_below (n + i) n (omega arith))
    ∙ ap (λ k. Cons t (left_of_all ts k)) (omega arith)

get_far : (xs ys : List CoreAsk) (i : ℕ) → slice_get (xs ++ ys) (length xs + i) ≡ slice_get ys i
get_far xs ys i = get_behind xs ys (length xs + i) (omega arith) ∙ ap (slice_get ys) (omega arith)

-- what the first child's word leaves to the others
in_turn-front : (t : Tree) (ts : Trees) (ask : CoreAsk) (w u v : List CoreAsk) → w ≡ u ++ v → Continued t ask u → IsJoined ts v
    → ContinuedInTurn (Cons t ts) ask w
in_turn-front t ts ask w u v e here behind =
    let h = offer_below (offers t) here.0 ask here.1 in (
      here.0,
      get_front (offers t) _ here.0 h ∙ here.1,
      subst (λ us. IsJoined us w) (sym (in_front t ts here.0 h)) (u, v, e, here.2, behind),
    )

in_turn-behind : (t : Tree) (ts : Trees) (ask : CoreAsk) (w : List CoreAsk) → ends t ≡ true → ContinuedInTurn ts ask w
    → ContinuedInTurn (Cons t ts) ask w
in_turn-behind t ts ask w end there = (
  length (offers t) + there.0,
  get_far (offers t) _ there.0 ∙ (ap (λ b. slice_get (cond b (offers_in_turn ts) []) there.0) end ∙ there.1),
  subst (λ us. IsJoined us w) (sym (behind_turn t ts there.0)) there.2,
)

turn-front : (n : ℕ) (t : Tree) (ask : CoreAsk) (w u v : List CoreAsk) → w ≡ u ++ v → Continued t ask u → IsRepeated n (IsWord t) v
    → ContinuedTurn (suc n) t ask w
turn-front n t ask w u v e here behind =
    let m : suc n - 1 ≡ n = omega arith in
    (grind (arith, nat_tests), here.0, here.1, u, v, e, here.2, subst (λ k. IsRepeated k (IsWord t) v) (sym m) behind)

turn-behind : (n : ℕ) (t : Tree) (ask : CoreAsk) (w : List CoreAsk) → IsWord t [] → ContinuedTurn n t ask w → ContinuedTurn (suc n) t ask w
turn-behind zero t ask w nothing there = absurd (cc there.0)
turn-behind (suc n) t ask w nothing there =
    let m : suc n - 1 ≡ n = omega arith in
    let k : suc (suc n) - 1 ≡ suc n = omega arith in (
      grind (arith, nat_tests),
      there.1,
      there.2,
      there.3,
      there.4,
      there.5,
      there.6,
      subst (λ k. IsRepeated k (IsWord t) there.4) (sym k) ([], there.4, refl, nothing, subst (λ k. IsRepeated k (IsWord t) there.4) m there.7),
    )

of_turn : (n : ℕ) (t : Tree) (ask : CoreAsk) (w : List CoreAsk) → ContinuedTurn n t ask w → Continued (Times n t) ask w
of_turn n t ask w turn = (
  turn.1,
  ap (λ b. slice_get (cond b [] (offers t)) turn.1) turn.0 ∙ turn.2,
  (turn.3, turn.4, turn.5, turn.6, (turn.4, [], sym (append-nil turn.4), turn.7, refl)),
)

-- each word of a tree that isn't empty goes on from an offer
abbrev GoesOn : Tree → Type 0
GoesOn t = (ask : CoreAsk) (w : List CoreAsk) → IsWord t (ask ∷ w) → Continued t ask w

-- the first turn that asks anything
turn-split : (n : ℕ) (t : Tree) → GoesOn t → ((ask : CoreAsk) (w : List CoreAsk) → IsRepeated n (IsWord t) (ask ∷ w) → ContinuedTurn n t ask w)
    → (ask : CoreAsk) (w u v : List CoreAsk) → ask ∷ w ≡ u ++ v → IsWord t u → IsRepeated n (IsWord t) v → ContinuedTurn (suc n) t ask w
turn-split n t goes_on later ask w [] v e here behind = turn-behind n t ask w here (later ask w (subst (IsRepeated n (IsWord t)) (sym e) behind))
turn-split n t goes_on later ask w (a ∷ u) v e here behind =
    turn-front n t ask w u v (same-tail ask a w (u ++ v) e) (goes_on ask u (subst (λ b. IsWord t (b ∷ u)) (sym (same-head ask a w (u ++ v) e)) here)) behind

turn-out : (n : ℕ) (t : Tree) → GoesOn t → (ask : CoreAsk) (w : List CoreAsk) → IsRepeated n (IsWord t) (ask ∷ w) → ContinuedTurn n t ask w
turn-out zero t goes_on ask w e = absurd (cc e)
turn-out (suc n) t goes_on ask w e = turn-split n t goes_on (turn-out n t goes_on) ask w e.0 e.1 e.2 e.3 e.4

-- the first child that asks anything
joined-split : (t : Tree) (ts : Trees) → GoesOn t → ((ask : CoreAsk) (w : List CoreAsk) → IsJoined ts (ask ∷ w) → ContinuedInTurn ts ask w)
    → (ask : CoreAsk) (w u v : List CoreAsk) → ask ∷ w ≡ u ++ v → IsWord t u → IsJoined ts v → ContinuedInTurn (Cons t ts) ask w
joined-split t ts goes_on later ask w [] v e here behind = in_turn-behind t ts ask w (nothing-out t here) (later ask w (subst (IsJoined ts) (sym e) behind))
joined-split t ts goes_on later ask w (a ∷ u) v e here behind =
    in_turn-front t ts ask w u v (same-tail ask a w (u ++ v) e)
    (goes_on ask u (subst (λ b. IsWord t (b ∷ u)) (sym (same-head ask a w (u ++ v) e)) here)) behind

-- the child that the word's first ask is of
interleaved-split : (t : Tree) (ts : Trees) → GoesOn t → ((ask : CoreAsk) (w : List CoreAsk) → IsInterleaved ts (ask ∷ w) → ContinuedOfAll ts ask w)
    → (ask : CoreAsk) (w u v : List CoreAsk) → IsWord t u → IsInterleaved ts v → Interleaves u v (ask ∷ w) → ContinuedOfAll (Cons t ts) ask w
interleaved-split t ts goes_on later ask w u v here others (inl front) =
    let there = goes_on ask front.0 (subst (IsWord t) front.1 here) in
    let h = offer_below (offers t) there.0 ask there.1 in (
      there.0,
      get_front (offers t) _ there.0 h ∙ there.1,
      subst (λ us. IsInterleaved us w) (sym (all_in_front t ts there.0 h)) (front.0, v, there.2, others, front.2),
    )
interleaved-split t ts goes_on later ask w u v here others (inr back) =
    let there = later ask back.0 (subst (IsInterleaved ts) back.1 others) in (
      length (offers t) + there.0,
      get_far (offers t) _ there.0 ∙ there.1,
      subst (λ us. IsInterleaved us w) (sym (all_behind t ts there.0)) (u, back.0, here, there.2, back.2),
    )

mutual
  pub ask-out : (t : Tree) (ask : CoreAsk) (w : List CoreAsk) → IsWord t (ask ∷ w) → Continued t ask w
  ask-out (One o) ask w e = (zero, ap Some (sym (same-head ask o w [] e)), same-tail ask o w [] e)
  ask-out (Seq ts) ask w e = joined-out ts ask w e
  ask-out (Any ts) ask w e = of_one-out ts ask w e
  ask-out (Times n t) ask w e = of_turn n t ask w (turn-out n t (ask-out t) ask w e)
  ask-out (Both ts) ask w e = interleaved-out ts ask w e

  joined-out : (ts : Trees) (ask : CoreAsk) (w : List CoreAsk) → IsJoined ts (ask ∷ w) → ContinuedInTurn ts ask w
  joined-out Nil ask w e = absurd (cc e)
  joined-out (Cons t ts) ask w e = joined-split t ts (ask-out t) (joined-out ts) ask w e.0 e.1 e.2 e.3 e.4

  of_one-out : (ts : Trees) (ask : CoreAsk) (w : List CoreAsk) → IsWordOfOne ts (ask ∷ w) → ContinuedOfOne ts ask w
  of_one-out Nil ask w e = absurd e
  of_one-out (Cons t ts) ask w (inl e) =
      let here = ask-out t ask w e in
      let h = offer_below (offers t) here.0 ask here.1 in
      (here.0, get_front (offers t) _ here.0 h ∙ here.1, subst (λ u. IsWord u w) (sym (one_in_front t ts here.0 h)) here.2)
  of_one-out (Cons t ts) ask w (inr e) =
      let there = of_one-out ts ask w e in
      (length (offers t) + there.0, get_far (offers t) _ there.0 ∙ there.1, subst (λ u. IsWord u w) (sym (one_behind t ts there.0)) there.2)

  interleaved-out : (ts : Trees) (ask : CoreAsk) (w : List CoreAsk) → IsInterleaved ts (ask ∷ w) → ContinuedOfAll ts ask w
  interleaved-out Nil ask w e = absurd (cc e)
  interleaved-out (Cons t ts) ask w e = interleaved-split t ts (ask-out t) (interleaved-out ts) ask w e.0 e.1 e.2 e.3 e.4
