-- What stands at the places of a list.
use Rattle.std.proofs.Common.{◌≡◌, ◌≢◌, ◌<◌, ℕ, zero, suc, List, [], ◌∷◌, length, Some, slice_get, slice_set, refl, ap, arith}

pub set-other : {X : Type 0} (xs : List X) (i j : ℕ) (x : X) → j ≢ i → slice_get (slice_set xs i x) j ≡ slice_get xs j
set-other [] i j x ne = refl
set-other (y ∷ ys) zero zero x ne = absurd (ne refl)
set-other (y ∷ ys) zero (suc j) x ne = refl
set-other (y ∷ ys) (suc i) zero x ne = refl
set-other (y ∷ ys) (suc i) (suc j) x ne = set-other ys i j x (λ e. ne (ap suc e))

pub set-here : {X : Type 0} (xs : List X) (i : ℕ) (x y : X) → slice_get xs i ≡ Some y → slice_get (slice_set xs i x) i ≡ Some x
set-here [] i x y e = absurd (cc e)
set-here (z ∷ zs) zero x y e = refl
set-here (z ∷ zs) (suc i) x y e = set-here zs i x y e

pub get-low : {X : Type 0} (xs : List X) (y : X) (k : ℕ) → slice_get xs k ≡ Some y → k < length xs
get-low [] y k e = absurd (cc e)
get-low (z ∷ xs) y zero e = omega arith
get-low (z ∷ xs) y (suc k) e = let lt = get-low xs y k e in omega (arith, lt)

pub same-some : {X : Type 0} (x y : X) → Some x ≡ Some y → x ≡ y
same-some x y e = cc e

pub same-head : {X : Type 0} (a b : X) (u v : List X) → a ∷ u ≡ b ∷ v → a ≡ b
same-head a b u v e = cc e

pub there-is : {X : Type 0} (xs : List X) (k : ℕ) → k < length xs → (x : X) × (slice_get xs k ≡ Some x)
there-is [] k low = absurd (omega (arith, low))
there-is (x ∷ xs) zero low = (x, refl)
there-is (x ∷ xs) (suc k) low = there-is xs k (omega (arith, low))
