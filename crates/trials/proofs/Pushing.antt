-- Lists with one element more.
use Rattle.std.proofs.Common.{◌≡◌, ◌⊎◌, ◌<◌, ◌+◌, ℕ, zero, suc, List, [], ◌∷◌, ◌++◌, Some, length, slice_get, refl, ap, inl, inr, arith}
use Rattle.std.proofs.lemmas.List.{length-append}

-- an element of a list with one more is one of the list, or that one
pub get-push : {X : Type 0} (xs : List X) (x y : X) (k : ℕ) → slice_get (xs ++ x ∷ []) k ≡ Some y →
    ((slice_get xs k ≡ Some y) × (k < length xs)) ⊎ ((k ≡ length xs) × (x ≡ y))
get-push [] x y zero e = inr (refl, cc)
get-push [] x y (suc k) e = absurd (cc)
get-push (z ∷ xs) x y zero e = inl (e, omega arith)
get-push (z ∷ xs) x y (suc k) e = elim (get-push xs x y k e) [
  | inl h ↦ inl (h.0, let lt = h.1 in omega (arith, lt))
  | inr h ↦ inr (ap suc h.0, h.1)
]

-- the last element
pub get-pushed : {X : Type 0} (xs : List X) (x : X) → slice_get (xs ++ x ∷ []) (length xs) ≡ Some x
get-pushed [] x = refl
get-pushed (z ∷ xs) x = get-pushed xs x

-- the elements before the last
pub get-before : {X : Type 0} (xs : List X) (x : X) (k : ℕ) → k < length xs → slice_get (xs ++ x ∷ []) k ≡ slice_get xs k
get-before [] x k low = absurd (omega (arith, low))
get-before (z ∷ xs) x zero low = refl
get-before (z ∷ xs) x (suc k) low = get-before xs x k (omega (arith, low))

pub length-push : {X : Type 0} (xs : List X) (x : X) → length (xs ++ x ∷ []) ≡ length xs + 1
length-push xs x = length-append xs (x ∷ [])
