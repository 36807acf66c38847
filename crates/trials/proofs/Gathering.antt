-- Results that were made side by side are those of the trials in order.
use Rattle.std.proofs.Common.{◌≡◌, ◌+◌, ℕ, zero, suc, List, [], ◌∷◌, map, length, refl, ap, sym, subst, arith}
use Rattle.std.proofs.Common.{Result, Ok, Err, IfOk, MatchResult, Some, slice_get}
use Rattle.std.specs.List.{AllZip, Contains, range_with_len}
use Rattle.std.specs.declared.vec.Vec.{Vec}
use Rattle.std.specs.declared.alloc.Global.{Global}
use Rattle.base.specs.declared.fault.NoMemory.{NoMemory}

module _ {X : Type 0} (IsFor : ℕ → X → Type 0) where
  -- what was made for a number is for that number, where it was made
  abbrev pub IsMadeFor : ℕ → Result X NoMemory → Type 0
  IsMadeFor number made = IfOk made (IsFor number)

  count : (a n : ℕ) (xs : List X) → AllZip IsMadeFor (range_with_len a n) (map Ok xs) → length xs ≡ n
  count a zero [] zip = refl
  count a zero (x ∷ xs) zip = absurd zip
  count a (suc n) [] zip = absurd zip
  count a (suc n) (x ∷ xs) zip = ap suc (count (a + 1) n xs zip.1)

  each : (a n : ℕ) (xs : List X) → AllZip IsMadeFor (range_with_len a n) (map Ok xs) → (i : ℕ) (x : X) → slice_get xs i ≡ Some x → IsFor (a + i) x
  each a zero [] zip i x at = absurd (cc at)
  each a zero (y ∷ xs) zip i x at = absurd zip
  each a (suc n) [] zip i x at = absurd zip
  each a (suc n) (y ∷ xs) zip zero x at =
      let same : y ≡ x = cc at in
      let here : a ≡ a + 0 = omega arith in
      subst (λ k. IsFor k x) here (subst (IsFor a) same zip.0)
  each a (suc n) (y ∷ xs) zip (suc i) x at =
      let there : a + 1 + i ≡ a + suc i = omega arith in
      subst (λ k. IsFor k x) there (each (a + 1) n xs zip.1 i x at)

  from_zero : (n : ℕ) (xs : List X) → ((i : ℕ) (x : X) → slice_get xs i ≡ Some x → IsFor (0 + i) x) →
      (i : ℕ) (x : X) → slice_get xs i ≡ Some x → IsFor i x
  from_zero n xs are i x at =
      let none_before : 0 + i ≡ i = omega arith in
      subst (λ k. IsFor k x) none_before (are i x at)

  -- what is made for each of the numbers below n, where all could be made
  pub record AreMade (n : ℕ) (xs : List X) : Type 0 where
    pub count : length xs ≡ n
    pub each : (i : ℕ) (x : X) → slice_get xs i ≡ Some x → IsFor i x

  pub are_made : (n : ℕ) (numbers : List ℕ) (made : List (Result X NoMemory)) (all : Result (Vec X Global) NoMemory) → numbers ≡ range_with_len 0 n →
      AllZip IsMadeFor numbers made →
      MatchResult all (λ v. (ys : List X) × (made ≡ map Ok ys) × (v.items ≡ ys)) (λ e. Contains made (Err e)) → IfOk all (λ v. AreMade n v.items)
  are_made n numbers made (Ok v) range zip gathered =
      let zipped : AllZip IsMadeFor (range_with_len 0 n) (map Ok gathered.0) =
      subst (λ ms. AllZip IsMadeFor (range_with_len 0 n) ms) gathered.1 (subst (λ ns. AllZip IsMadeFor ns made) range zip) in
      subst (AreMade n) (sym gathered.2) (record { count = count 0 n gathered.0 zipped; each = from_zero n gathered.0 (each 0 n gathered.0 zipped) })
  are_made n numbers made (Err e) range zip gathered = tt
