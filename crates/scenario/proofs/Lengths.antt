-- Products that are cut at a bound.
use Rattle.std.proofs.Common.{◌≡◌, ◌+◌, ◌*◌, ◌≤◌, ◌<◌, ◌⊎◌, inl, inr, ℕ, zero, suc, min, refl, arith}
use Rattle.std.proofs.lemmas.Bool.{cases_lt}

product-suc : (n a : ℕ) → suc n * a ≡ a + n * a
product-suc n a = grind (arith)

by_side : (n a : ℕ) → (a < 1000001) ⊎ (1000001 ≤ a) → min (suc n * min a 1000001) 1000001 ≡ min (suc n * a) 1000001
by_side n a (inl small) = let e : min a 1000001 ≡ a = omega arith in rw e refl
by_side n a (inr large) =
    let e : min a 1000001 ≡ 1000001 = omega arith in
    rw (e, product-suc n 1000001, product-suc n a) (omega arith)

-- a number of cut lengths is, cut, that number of lengths
pub cut_product : (n a : ℕ) → min (n * min a 1000001) 1000001 ≡ min (n * a) 1000001
cut_product zero a = omega arith
cut_product (suc n) a = by_side n a (cases_lt a 1000001)
