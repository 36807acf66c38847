-- A list with one more element, place by place.
use Rattle.std.proofs.Common.{◌≡◌, ◌⊎◌, ◌<◌, ℕ, zero, suc, List, [], ◌∷◌, ◌++◌, Some, length, take, slice_get, refl, ap, inl, inr, arith, ◌∙◌}
use Rattle.std.proofs.lemmas.List.{take_all, take-append-le}

-- an element of a list with one more is one of the list, or that one
pub get_push : {X : Type 0} (xs : List X) (x y : X) (k : ℕ) → slice_get (xs ++ x ∷ []) k ≡ Some y →
    ((slice_get xs k ≡ Some y) × (k < length xs)) ⊎ ((k ≡ length xs) × (x ≡ y))
get_push [] x y zero e = inr (refl, cc e)
get_push [] x y (suc k) e = absurd (cc e)
get_push (z ∷ xs) x y zero e = inl (e, omega arith)
get_push (z ∷ xs) x y (suc k) e = elim (get_push xs x y k e) [
  | inl h ↦ inl (h.0, let lt = h.1 in omega (arith, lt))
  | inr h ↦ inr (ap suc h.0, h.1)
]

pub take_whole : {X : Type 0} (xs ys : List X) → take (length xs) (xs ++ ys) ≡ xs
take_whole xs ys = take-append-le (length xs) xs ys (omega arith) ∙ take_all (length xs) xs (omega arith)
