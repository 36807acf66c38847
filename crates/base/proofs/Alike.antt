-- Lists that are the same from a place on, or at their front.
use Rattle.std.specs.Prelude.{◌≡◌, ◌≤◌, ◌<◌, ◌+◌, ◌-◌, ℕ, List, ◌++◌, drop, length, take}
use Rattle.std.proofs.Common.{ap, sym, ◌∙◌, arith, get_or}
use Rattle.std.proofs.lemmas.Grind.{same_number_lists}
use Rattle.std.proofs.lemmas.List.{get_or-drop, get_or-take, length-take-le, take-append-drop}

-- where so many bytes from a place on are the same, each of them is
pub same-from : (n at : ℕ) (one other : List ℕ) → take n (drop at one) ≡ take n (drop at other) → (k : ℕ) → at ≤ k → k < at + n →
    get_or one k 0 ≡ get_or other k 0
same-from n at one other same k low high =
    let within : k - at < n = omega (arith, low, high) in
    let here : (xs : List ℕ) → get_or (take n (drop at xs)) (k - at) 0 ≡ get_or xs k 0 =
    λ xs. get_or-take n (drop at xs) (k - at) 0 within ∙ get_or-drop at xs (k - at) 0 ∙ ap (λ i. get_or xs i 0) (omega (arith, low)) in
    sym (here one) ∙ ap (λ xs. get_or xs (k - at) 0) same ∙ here other

-- where a list begins with the numbers of another, it begins with that
pub begins-same : (line word : List ℕ) → length word ≤ length line → ((k : ℕ) → k < length word → get_or line k 0 ≡ get_or word k 0) →
    line ≡ word ++ drop (length word) line
begins-same line word fits same =
    let n = length word in
    let long = length-take-le n line fits in
    let front : take n line ≡ word =
    same_number_lists (take n line) word long
    (λ k lt. let within : k < n = omega (arith, lt, long) in get_or-take n line k 0 within ∙ same k within) in
    sym (take-append-drop n line) ∙ ap (λ l. l ++ drop n line) front
