-- What stands at a place of a list.
use Rattle.std.proofs.Common.{◌≡◌, ℕ, ◌<◌, ◌+◌, List, [], ◌∷◌, ◌++◌, refl, ap, ◌∙◌, zero, suc, arith, Some, slice_get, length, get_or, Contains}

pub same-some : {X : Type 0} (x y : X) → Some x ≡ Some y → x ≡ y
same-some x y e = cc

pub below-length : {X : Type 0} (xs : List X) (k : ℕ) (x : X) → slice_get xs k ≡ Some x → k < length xs
below-length [] k x e = absurd (cc)
below-length (y ∷ ys) zero x e = omega arith
below-length (y ∷ ys) (suc k) x e = omega (arith, below-length ys k x e)

pub read : {X : Type 0} (xs : List X) (k : ℕ) (x d : X) → slice_get xs k ≡ Some x → get_or xs k d ≡ x
read [] k x d e = absurd (cc)
read (y ∷ ys) zero x d e = same-some y x e
read (y ∷ ys) (suc k) x d e = read ys k x d e

pub get-there : {X : Type 0} (xs : List X) (k : ℕ) (d : X) → k < length xs → slice_get xs k ≡ Some (get_or xs k d)
get-there [] k d lt = absurd (omega arith)
get-there (y ∷ ys) zero d lt = refl
get-there (y ∷ ys) (suc k) d lt = get-there ys k d (omega (arith, lt))

-- a list is longer by one at its end
pub get-before : {X : Type 0} (xs : List X) (x : X) (k : ℕ) → k < length xs → slice_get (xs ++ x ∷ []) k ≡ slice_get xs k
get-before [] x k lt = absurd (omega arith)
get-before (y ∷ ys) x zero lt = refl
get-before (y ∷ ys) x (suc k) lt = get-before ys x k (omega (arith, lt))

pub get-last : {X : Type 0} (xs : List X) (x : X) (k : ℕ) → k ≡ length xs → slice_get (xs ++ x ∷ []) k ≡ Some x
get-last [] x k e = ap (λ n. slice_get (x ∷ []) n) e
get-last (y ∷ ys) x k e = ap (λ n. slice_get (y ∷ (ys ++ x ∷ [])) n) e ∙ get-last ys x (length ys) refl

-- what is contained stands somewhere
pub contained-at : {X : Type 0} (xs : List X) (x : X) → Contains xs x → (k : ℕ) × (slice_get xs k ≡ Some x)
contained-at xs x h = (h.0, get-there xs h.0 x h.1 ∙ ap (λ y. Some y) h.2)

pub contains-at : {X : Type 0} (xs : List X) (k : ℕ) (x : X) → slice_get xs k ≡ Some x → Contains xs x
contains-at xs k x e = (k, below-length xs k x e, read xs k x x e)

pub length-push : {X : Type 0} (xs : List X) (x : X) → length (xs ++ x ∷ []) ≡ length xs + 1
length-push [] x = refl
length-push (y ∷ ys) x = omega (arith, length-push ys x)
