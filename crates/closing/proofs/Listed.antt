-- Lists of the pairs of ranked ones, as they are gathered.
use Rattle.std.proofs.Common.{◌≡◌, ◌⊎◌, inl, inr, ℕ, ◌<◌, ◌+◌, List, [], ◌∷◌, ◌++◌, refl, sym, subst, ◌∙◌, arith, below_more, Some, slice_get, length, Contains}
use Rattle.std.proofs.lemmas.Bool.{cases_lt}
use Rattle.pairs.specs.declared.pair.Pair.{Pair}
use Rattle.closing.specs.declared.ranked.RankedPair.{RankedPair}
use Rattle.closing.proofs.Reading.{below-length, contained-at, contains-at, get-before, get-last, length-push, same-some}

-- what a list with one more at its end contains
pub contains-still : {X : Type 0} (xs : List X) (x y : X) → Contains xs y → Contains (xs ++ x ∷ []) y
contains-still xs x y has =
    let at = contained-at xs y has in
    contains-at (xs ++ x ∷ []) at.0 y (get-before xs x at.0 (below-length xs at.0 y at.1) ∙ at.1)

pub contains-last : {X : Type 0} (xs : List X) (x : X) → Contains (xs ++ x ∷ []) x
contains-last xs x = contains-at (xs ++ x ∷ []) (length xs) x (get-last xs x (length xs) refl)

pub contains-push : {X : Type 0} (xs : List X) (x y : X) → Contains (xs ++ x ∷ []) y → Contains xs y ⊎ (x ≡ y)
contains-push xs x y has =
    let at = contained-at (xs ++ x ∷ []) y has in
    elim (cases_lt at.0 (length xs)) [
      | inl before ↦ inl (contains-at xs at.0 y (sym (get-before xs x at.0 before) ∙ at.1))
      | inr after ↦ inr (same-some x y (sym (get-last xs x at.0 (omega (arith, after, below-length (xs ++ x ∷ []) at.0 y at.1, length-push xs x))) ∙ at.1))
    ]

-- each of the first ranked ones has its pair here
abbrev pub HasFirst : List RankedPair → ℕ → List Pair → Type 0
HasFirst list n pairs = (k : ℕ) → k < n → (r : RankedPair) → slice_get list k ≡ Some r → Contains pairs r.pair

-- each pair here is that of a ranked one
abbrev pub ComesFrom : List RankedPair → List Pair → Type 0
ComesFrom list pairs = (p : Pair) → Contains pairs p → (r : RankedPair) × Contains list r × (r.pair ≡ p)

-- one more of the ranked ones has its pair here
pub first-more : (list : List RankedPair) (n : ℕ) (pairs more : List Pair) (item : RankedPair) → HasFirst list n pairs →
    ((p : Pair) → Contains pairs p → Contains more p) → Contains more item.pair → ((r : RankedPair) → slice_get list n ≡ Some r → item ≡ r) →
    HasFirst list (n + 1) more
first-more list n pairs more item first kept has same =
    below_more (λ k. (r : RankedPair) → slice_get list k ≡ Some r → Contains more r.pair) n (λ k low r at. kept r.pair (first k low r at))
    (λ r at. subst (λ (q : RankedPair). Contains more q.pair) (same r at) has)

pub comes-more : (list : List RankedPair) (pairs : List Pair) (item : RankedPair) → ComesFrom list pairs → Contains list item →
    ComesFrom list (pairs ++ item.pair ∷ [])
comes-more list pairs item comes has p found = elim (contains-push pairs item.pair p found) [
  | inl old ↦ comes p old
  | inr new ↦ (item, has, new)
]
