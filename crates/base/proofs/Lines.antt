-- Words of a line.
use Rattle.std.proofs.Common.{◌≡◌, ◌≢◌, ℕ, ◌≤◌, ◌<◌, ◌+◌, ◌-◌, List, [], ◌∷◌, length, take, drop, Bool, false, true, refl, ap, ◌∙◌, arith, sym}
use Rattle.std.proofs.lemmas.Grind.{common_steps}
use Rattle.std.proofs.lemmas.List.Splits.{slice_split_first, length-slice_split}
use Rattle.std.specs.List.{slice_split, position_or_len}

-- a line with no blank is one word
pub one_word : (p : ℕ → Bool) (xs : List ℕ) → length xs ≤ position_or_len p xs → slice_split p xs ≡ xs ∷ []
one_word p [] h = refl
one_word p (x ∷ xs) h = by_case (p x) refl (one_word p xs)
  where
    by_case : (t : Bool) → p x ≡ t → (length xs ≤ position_or_len p xs → slice_split p xs ≡ xs ∷ []) → slice_split p (x ∷ xs) ≡ (x ∷ xs) ∷ []
    by_case true e again = let h' = rw e at h in absurd (omega (arith, h'))
    by_case false e again = let h' = rw e at h in rw e (rw (again (omega (arith, h'))) refl)

-- the first word, and the words behind its blank
pub first_word : (p : ℕ → Bool) (xs : List ℕ) (at : ℕ) → at ≡ position_or_len p xs → at < length xs →
    slice_split p xs ≡ take at xs ∷ slice_split p (take (length xs - (at + 1)) (drop (at + 1) xs))
first_word p xs at e low =
    let whole : take (length xs - (at + 1)) (drop (at + 1) xs) ≡ drop (at + 1) xs = grind (arith, common_steps) in
    rw (whole, e) (slice_split_first p xs 0 (omega (arith, e, low)))

-- a word in front of others isn't alone
pub not_one : (p : ℕ → Bool) (rest : List ℕ) (all : List (List ℕ)) (a x : List ℕ) → all ≡ a ∷ slice_split p rest → all ≢ x ∷ []
not_one p rest all a x e f = let n = length-slice_split p rest in absurd (omega (arith, n, ap length (sym e ∙ f)))

-- two words in front of others aren't alone
pub not_two : (p : ℕ → Bool) (rest : List ℕ) (all : List (List ℕ)) (a b x y : List ℕ) → all ≡ a ∷ b ∷ slice_split p rest → all ≢ x ∷ y ∷ []
not_two p rest all a b x y e f = let n = length-slice_split p rest in absurd (omega (arith, n, ap length (sym e ∙ f)))
