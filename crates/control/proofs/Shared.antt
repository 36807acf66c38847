-- How many share besides a cache.
use Rattle.std.proofs.Common.{◌≡◌, ◌+◌, ◌<◌, ℕ, List, [], ◌∷◌, Bool, true, false, not, ap, get_or, zero, suc, refl, arith, ◌==◌, if◌then◌else◌}
use Rattle.std.proofs.lemmas.Bool.{ne_eqb, eq-eqb}
use Rattle.std.proofs.lemmas.List.Sums.{sum_by-cons}
use Rattle.control.specs.Sharing.{others_from}
use Rattle.network.specs.Room.{one_if}
use Rattle.rows.specs.Flags.{set_count}

count-cons : (flag : Bool) (flags : List Bool) → set_count (flag ∷ flags) ≡ one_if flag + set_count flags
count-cons true flags = sum_by-cons (λ flag. if flag then 1 else 0) true flags
count-cons false flags = sum_by-cons (λ flag. if flag then 1 else 0) false flags

-- beyond the cache all sharers are others
others-all : (flags : List Bool) (i cache : ℕ) → cache < i → others_from i cache flags ≡ set_count flags
others-all [] i cache h = refl
others-all (false ∷ flags) i cache h = omega (arith, count-cons false flags, others-all flags (i + 1) cache (omega arith))
others-all (true ∷ flags) i cache h =
    let other : one_if (not (i == cache)) ≡ 1 = ap (λ b. one_if (not b)) (ne_eqb i cache (λ e. absurd (omega (arith, e, h)))) in
    omega (arith, other, count-cons true flags, others-all flags (i + 1) cache (omega arith))

-- all that share but the cache
pub others-count : (flags : List Bool) (i n cache : ℕ) → cache ≡ i + n → others_from i cache flags + one_if (get_or flags n false) ≡ set_count flags
others-count [] i n cache h = refl
others-count (false ∷ flags) i zero cache h = omega (arith, count-cons false flags, others-all flags (i + 1) cache (omega (arith, h)))
others-count (true ∷ flags) i zero cache h =
    let same : one_if (not (i == cache)) ≡ 0 = ap (λ b. one_if (not b)) (eq-eqb i cache (omega (arith, h))) in
    omega (arith, same, count-cons true flags, others-all flags (i + 1) cache (omega (arith, h)))
others-count (false ∷ flags) i (suc n) cache h =
    omega (arith, count-cons false flags, others-count flags (i + 1) n cache (omega (arith, h)))
others-count (true ∷ flags) i (suc n) cache h =
    let other : one_if (not (i == cache)) ≡ 1 = ap (λ b. one_if (not b)) (ne_eqb i cache (λ e. absurd (omega (arith, e, h)))) in
    omega (arith, other, count-cons true flags, others-count flags (i + 1) n cache (omega (arith, h)))
