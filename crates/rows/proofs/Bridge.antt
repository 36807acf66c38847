-- The k-th of two lists that are joined.
use Rattle.std.proofs.Common.{ℕ, ◌≡◌, ◌∙◌, ◌+◌, ◌-◌, ◌<◌, ◌≤◌, List, [], ◌∷◌, ◌++◌, ap, length, refl, arith, zero, suc, slice_get, zero-add, suc-add}

-- what the first has
pub get_front : {X : Type 0} (a b : List X) (k : ℕ) → k < length a → slice_get (a ++ b) k ≡ slice_get a k
get_front [] b k h = absurd (omega arith)
get_front (x ∷ a) b zero h = refl
get_front (x ∷ a) b (suc k) h = get_front a b k (omega arith)

-- what the second has behind it
pub get_behind : {X : Type 0} (a b : List X) (k : ℕ) → slice_get (a ++ b) (length a + k) ≡ slice_get b k
get_behind [] b k = rw zero-add refl
get_behind (x ∷ a) b k = rw suc-add (get_behind a b k)

pub get_behind_by : {X : Type 0} (a b : List X) (k : ℕ) → length a ≤ k → slice_get (a ++ b) k ≡ slice_get b (k - length a)
get_behind_by a b k h = let q : k ≡ length a + (k - length a) = omega arith in ap (λ m. slice_get (a ++ b) m) q ∙ get_behind a b (k - length a)
