-- Sums of fronts of a row.
use Rattle.std.proofs.Common.{ℕ, ◌≡◌, ◌+◌, ◌*◌, ◌<◌, ◌≤◌, List, length, take, get_or, ap, arith, inl, inr}
use Rattle.std.specs.List.{sum}
use Rattle.std.proofs.lemmas.List.Sums.{sum_by-take-le, sum_by_more, sum_by-le}
use Rattle.std.proofs.lemmas.List.{take-take, get_or_default, get_or_past}
use Rattle.std.proofs.lemmas.Bool.{cases_lt}
use Rattle.rows.specs.Counts.{Finds}

-- longer fronts have larger sums
pub front_grows : (xs : List ℕ) (a b : ℕ) → a ≤ b → sum (take a xs) ≤ sum (take b xs)
front_grows xs a b h =
    let e : sum (take a (take b xs)) ≤ sum (take b xs) = sum_by-take-le (λ x. x) (take b xs) a in
    rw (take-take a b xs h) at e

-- one more place
pub front_step : (xs : List ℕ) (g : ℕ) → g < length xs → sum (take (g + 1) xs) ≡ sum (take g xs) + get_or xs g 0
front_step xs g h = sum_by_more (λ x. x) xs g 0 h

-- a sum of small numbers is small
pub sum_is_small : (xs : List ℕ) (m : ℕ) → ((k : ℕ) → k < length xs → get_or xs k 0 ≤ m) → sum xs ≤ length xs * m
sum_is_small xs m h = sum_by-le (λ x. x) m xs (λ k d l. rw (get_or_default xs k d 0 l) (h k l))

-- a found place is within the row
pub found_within : (xs : List ℕ) (k p r : ℕ) → Finds xs k p r → p < length xs
found_within xs k p r f =
    elim (cases_lt p (length xs)) [
      | inl l ↦ l
      | inr l ↦ let e : get_or xs p 0 ≡ 0 = get_or_past xs p 0 l in let w : r < get_or xs p 0 = f.within in absurd (omega arith)
    ]

passes : (xs : List ℕ) (k p r : ℕ) → Finds xs k p r → k < sum (take (p + 1) xs)
passes xs k p r f =
    let e = front_step xs p (found_within xs k p r f) in
    let w : r < get_or xs p 0 = f.within in
    let x = f.front in
    omega arith

not_before : (xs : List ℕ) (k p r q s : ℕ) → Finds xs k p r → Finds xs k q s → p ≤ q
not_before xs k p r q s f g =
    elim (cases_lt q p) [
      | inl h ↦ let t = passes xs k q s g in let u = front_grows xs (q + 1) p (omega arith) in let x = f.front in absurd (omega arith)
      | inr h ↦ h
    ]

-- no other place and rest
pub only_one : (xs : List ℕ) (k p r q s : ℕ) → Finds xs k p r → Finds xs k q s → (p ≡ q) × (r ≡ s)
only_one xs k p r q s f g =
    let a = not_before xs k p r q s f g in
    let b = not_before xs k q s p r g f in
    let e : p ≡ q = omega arith in
    let x = f.front in
    let y = g.front in
    (e, (let z : sum (take p xs) ≡ sum (take q xs) = ap (λ n. sum (take n xs)) e in omega arith))

-- the first whose front passes k
pub is_first : (xs : List ℕ) (k p r : ℕ) → Finds xs k p r → (k < sum (take (p + 1) xs)) × ((i : ℕ) → i < p → sum (take (i + 1) xs) ≤ k)
is_first xs k p r f = (passes xs k p r f, λ i h. let u = front_grows xs (i + 1) p (omega arith) in let x = f.front in omega arith)
