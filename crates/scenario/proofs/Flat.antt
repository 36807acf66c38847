-- What the code leaves of a tree is alike to what is left of it: both are the same tree once a row of one child is its child.
use Rattle.std.proofs.Common.{◌≡◌, ℕ, ◌<◌, ◌-◌, ◌==◌, Bool, true, false, ◌&&◌, if◌then◌else◌, cond, nat_lt, List, []}
use Rattle.std.proofs.Common.{◌∷◌, ◌++◌, length, Option, Some, None, option_map, refl, sym, ap, ◌∙◌, subst, arith}
use Rattle.base.specs.declared.step.CoreAsk.{CoreAsk}
use Rattle.scenario.specs.Tree.{Tree, Trees, One, Seq, Any, Times, Both, Nil, Cons}
use Rattle.scenario.specs.Taking.{ends, all_end, some_ends, offers, offers_in_turn, offers_of_all, left, left_in_turn, left_of_one, left_of_all}
use Rattle.scenario.specs.Alike.{Alike, Takes, followed, seen}
use Rattle.scenario.specs.Rests.{flat, flats, rest, rest_in_turn, rest_of_one, rest_of_all, row_of, Leaves}
use Rattle.scenario.proofs.Alikes.{follow_if}
use Rattle.scenario.proofs.Places.{is_below, by_test}

pub append-neither : {X : Type 0} (b : Bool) (xs : List X) → xs ++ cond b [] [] ≡ xs
append-neither true [] = refl
append-neither false [] = refl
append-neither b (x ∷ xs) = ap (λ ys. x ∷ ys) (append-neither b xs)

pub and_true : (b : Bool) → (b && true) ≡ b
and_true true = refl
and_true false = refl

offers-row : (ts : Trees) → offers (row_of ts) ≡ offers_in_turn ts
offers-row Nil = refl
offers-row (Cons t Nil) = sym (append-neither (ends t) (offers t))
offers-row (Cons t (Cons u us)) = refl

ends-row : (ts : Trees) → ends (row_of ts) ≡ all_end ts
ends-row Nil = refl
ends-row (Cons t Nil) = sym (and_true (ends t))
ends-row (Cons t (Cons u us)) = refl

mutual
  ends-flat : (t : Tree) → ends (flat t) ≡ ends t
  ends-flat (One ask) = refl
  ends-flat (Seq ts) = ends-row (flats ts) ∙ all_end-flats ts
  ends-flat (Any ts) = some_ends-flats ts
  ends-flat (Times n t) = rw (ends-flat t) refl
  ends-flat (Both ts) = all_end-flats ts

  all_end-flats : (ts : Trees) → all_end (flats ts) ≡ all_end ts
  all_end-flats Nil = refl
  all_end-flats (Cons t ts) = rw (ends-flat t, all_end-flats ts) refl

  some_ends-flats : (ts : Trees) → some_ends (flats ts) ≡ some_ends ts
  some_ends-flats Nil = refl
  some_ends-flats (Cons t ts) = rw (ends-flat t, some_ends-flats ts) refl

mutual
  offers-flat : (t : Tree) → offers (flat t) ≡ offers t
  offers-flat (One ask) = refl
  offers-flat (Seq ts) = offers-row (flats ts) ∙ in_turn-flats ts
  offers-flat (Any ts) = of_all-flats ts
  offers-flat (Times n t) = rw (offers-flat t) refl
  offers-flat (Both ts) = of_all-flats ts

  in_turn-flats : (ts : Trees) → offers_in_turn (flats ts) ≡ offers_in_turn ts
  in_turn-flats Nil = refl
  in_turn-flats (Cons t ts) = rw (offers-flat t, ends-flat t, in_turn-flats ts) refl

  of_all-flats : (ts : Trees) → offers_of_all (flats ts) ≡ offers_of_all ts
  of_all-flats Nil = refl
  of_all-flats (Cons t ts) = rw (offers-flat t, of_all-flats ts) refl

pub flat-row : (ts : Trees) → flat (row_of ts) ≡ row_of (flats ts)
flat-row Nil = refl
flat-row (Cons t Nil) = refl
flat-row (Cons t (Cons u us)) = refl

mutual
  flat-flat : (t : Tree) → flat (flat t) ≡ flat t
  flat-flat (One ask) = refl
  flat-flat (Seq ts) = flat-row (flats ts) ∙ ap row_of (flats-flats ts)
  flat-flat (Any ts) = ap Any (flats-flats ts)
  flat-flat (Times n t) = ap (Times n) (flat-flat t)
  flat-flat (Both ts) = ap Both (flats-flats ts)

  flats-flats : (ts : Trees) → flats (flats ts) ≡ flats ts
  flats-flats Nil = refl
  flats-flats (Cons t ts) = rw (flat-flat t, flats-flats ts) refl

-- the rest is the same
mutual
  pub flat-rest : (t : Tree) (i : ℕ) → flat (rest t i) ≡ flat (left t i)
  flat-rest (One ask) i = refl
  flat-rest (Seq ts) i = flat-rest_in_turn ts i
  flat-rest (Any ts) i = flat-rest_of_one ts i
  flat-rest (Times n t) i = ap (λ u. Seq (Cons u (Cons (Times (n - 1) (flat t)) Nil))) (flat-rest t i)
  flat-rest (Both ts) i = ap Both (flats-rest_of_all ts i)

  flat-rest_in_turn : (ts : Trees) (i : ℕ) → flat (rest_in_turn ts i) ≡ row_of (flats (left_in_turn ts i))
  flat-rest_in_turn Nil i = refl
  flat-rest_in_turn (Cons t ts) i =
      by_test
      (λ b. flat (cond b (row_of (Cons (rest t i) ts)) (rest_in_turn ts (i - length (offers t))))
      ≡ row_of (flats (cond b (Cons (left t i) ts) (left_in_turn ts (i - length (offers t))))))
      i
      (length (offers t))
      (λ h. flat-row (Cons (rest t i) ts) ∙ ap (λ u. row_of (Cons u (flats ts))) (flat-rest t i))
      (λ h. flat-rest_in_turn ts (i - length (offers t)))

  flat-rest_of_one : (ts : Trees) (i : ℕ) → flat (rest_of_one ts i) ≡ flat (left_of_one ts i)
  flat-rest_of_one Nil i = refl
  flat-rest_of_one (Cons t ts) i =
      by_test
      (λ b. flat (cond b (rest t i) (rest_of_one ts (i - length (offers t)))) ≡ flat (cond b (left t i) (left_of_one ts (i - length (offers t)))))
      i
      (length (offers t))
      (λ h. flat-rest t i)
      (λ h. flat-rest_of_one ts (i - length (offers t)))

  flats-rest_of_all : (ts : Trees) (i : ℕ) → flats (rest_of_all ts i) ≡ flats (left_of_all ts i)
  flats-rest_of_all Nil i = refl
  flats-rest_of_all (Cons t ts) i =
      by_test
      (λ b. flats (cond b (Cons (rest t i) ts) (Cons t (rest_of_all ts (i - length (offers t)))))
      ≡ flats (cond b (Cons (left t i) ts) (Cons t (left_of_all ts (i - length (offers t))))))
      i
      (length (offers t))
      (λ h. ap (λ u. Cons u (flats ts)) (flat-rest t i))
      (λ h. ap (Cons (flat t)) (flats-rest_of_all ts (i - length (offers t))))

-- the same test, where the first child's offers are told otherwise
abbrev in_turn_by : ℕ → Tree → Trees → ℕ → Trees
in_turn_by n t ts i = if nat_lt i n then Cons (left t i) ts else left_in_turn ts (i - n)

abbrev of_one_by : ℕ → Tree → Trees → ℕ → Tree
of_one_by n t ts i = if nat_lt i n then left t i else left_of_one ts (i - n)

abbrev of_all_by : ℕ → Tree → Trees → ℕ → Trees
of_all_by n t ts i = if nat_lt i n then Cons (left t i) ts else Cons t (left_of_all ts (i - n))

left-row : (us : Trees) (i : ℕ) → i < length (offers (row_of us)) → flat (left (row_of us) i) ≡ row_of (flats (left_in_turn us i))
left-row Nil i h = refl
left-row (Cons u Nil) i h = ap (λ b. row_of (flats (cond b (Cons (left u i) Nil) Nil))) (sym (is_below i (length (offers u)) h))
left-row (Cons u (Cons v vs)) i h = refl

-- an offer of a Times is one of its child
pub among_turns : (none : Bool) (os : List CoreAsk) (i : ℕ) → i < length (cond none [] os) → i < length os
among_turns true os i h = absurd (omega (arith, h))
among_turns false os i h = h

-- taking an offer does the same to the tree without such rows
mutual
  flat-left : (t : Tree) (i : ℕ) → i < length (offers t) → flat (left t i) ≡ flat (left (flat t) i)
  flat-left (One ask) i h = refl
  flat-left (Seq ts) i h = ap row_of (flats-in_turn ts i) ∙ sym (left-row (flats ts) i (subst (λ os. i < length os) (sym (offers-flat (Seq ts))) h))
  flat-left (Any ts) i h = flat-of_one ts i
  flat-left (Times n t) i h = rw (flat-left t i (among_turns (n == 0) (offers t) i h), flat-flat t) refl
  flat-left (Both ts) i h = ap Both (flats-of_all ts i)

  flats-in_turn : (ts : Trees) (i : ℕ) → flats (left_in_turn ts i) ≡ flats (left_in_turn (flats ts) i)
  flats-in_turn Nil i = refl
  flats-in_turn (Cons t ts) i =
      subst
      (λ n. flats (left_in_turn (Cons t ts) i) ≡ flats (in_turn_by n (flat t) (flats ts) i))
      (ap length (sym (offers-flat t)))
      (by_test
      (λ b. flats (cond b (Cons (left t i) ts) (left_in_turn ts (i - length (offers t))))
      ≡ flats (cond b (Cons (left (flat t) i) (flats ts)) (left_in_turn (flats ts) (i - length (offers t)))))
      i
      (length (offers t))
      (λ h. rw (flat-left t i h, flats-flats ts) refl)
      (λ h. flats-in_turn ts (i - length (offers t))))

  flat-of_one : (ts : Trees) (i : ℕ) → flat (left_of_one ts i) ≡ flat (left_of_one (flats ts) i)
  flat-of_one Nil i = refl
  flat-of_one (Cons t ts) i =
      subst
      (λ n. flat (left_of_one (Cons t ts) i) ≡ flat (of_one_by n (flat t) (flats ts) i))
      (ap length (sym (offers-flat t)))
      (by_test
      (λ b. flat (cond b (left t i) (left_of_one ts (i - length (offers t))))
      ≡ flat (cond b (left (flat t) i) (left_of_one (flats ts) (i - length (offers t)))))
      i
      (length (offers t))
      (λ h. flat-left t i h)
      (λ h. flat-of_one ts (i - length (offers t))))

  flats-of_all : (ts : Trees) (i : ℕ) → flats (left_of_all ts i) ≡ flats (left_of_all (flats ts) i)
  flats-of_all Nil i = refl
  flats-of_all (Cons t ts) i =
      subst
      (λ n. flats (left_of_all (Cons t ts) i) ≡ flats (of_all_by n (flat t) (flats ts) i))
      (ap length (sym (offers-flat t)))
      (by_test
      (λ b. flats (cond b (Cons (left t i) ts) (Cons t (left_of_all ts (i - length (offers t)))))
      ≡ flats (cond b (Cons (left (flat t) i) (flats ts)) (Cons (flat t) (left_of_all (flats ts) (i - length (offers t))))))
      i
      (length (offers t))
      (λ h. rw (flat-left t i h, flats-flats ts) refl)
      (λ h. rw (flat-flat t, flats-of_all ts (i - length (offers t))) refl))

-- trees that are the same without such rows are alike
pub alike-flat : (s t : Tree) → flat s ≡ flat t → Alike s t
alike-flat s t e [] =
    let same_offers : offers s ≡ offers t = sym (offers-flat s) ∙ (ap offers e ∙ offers-flat t) in
    let same_end : ends s ≡ ends t = sym (ends-flat s) ∙ (ap ends e ∙ ends-flat t) in
    rw (same_offers, same_end) refl
alike-flat s t e (i ∷ path) =
    let same_offers : offers s ≡ offers t = sym (offers-flat s) ∙ (ap offers e ∙ offers-flat t) in
    subst
    (λ os. option_map seen (followed s (i ∷ path)) ≡ option_map seen (follow_if (nat_lt i (length os)) (left t i) path))
    same_offers
    (by_test
    (λ b. option_map seen (follow_if b (left s i) path) ≡ option_map seen (follow_if b (left t i) path))
    i
    (length (offers s))
    (λ h. alike-flat (left s i) (left t i)
    (flat-left s i h ∙ (ap (λ u. flat (left u i)) e ∙ sym (flat-left t i (subst (λ os. i < length os) same_offers h)))) path)
    (λ h. refl))

-- what the code leaves is alike to what is left
pub leaves_takes : (old : Tree) (i : ℕ) (r : Option CoreAsk) (new : Tree) → Leaves old i r new → Takes old i r new
leaves_takes old i None new h = h
leaves_takes old i (Some ask) new h = (h.0, alike-flat new (left old i) (ap flat h.1 ∙ flat-rest old i))
