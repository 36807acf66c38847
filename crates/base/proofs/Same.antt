-- Entries that are the same by their numbers are equal, and the other way round.
use Rattle.std.specs.Prelude.{◌≡◌, ◌↔◌, ℕ, Some, Bool, true, false, ◌==◌, ◌&&◌, List, [], ◌∷◌, slice_get}
use Rattle.std.proofs.Common.{refl, ap, subst, ◌∙◌, arith}
use Rattle.std.proofs.lemmas.Bool.Decides.{nat_tests}
use Rattle.base.specs.declared.controller.entry.CellEntry.{CellEntry}
use Rattle.base.specs.declared.controller.entry.CellEntry.TheVariants.{Blank, Stall, Act}
use Rattle.base.specs.Entries.{same_list, same_entry}
use Rattle.base.proofs.Cells.{same-place}

both-true : (a b : Bool) → (a && b) ≡ true → (a ≡ true) × (b ≡ true)
both-true true true e = (refl, refl)
both-true true false e = absurd (cc)
both-true false b e = absurd (cc)

number-same : (m n : ℕ) → (m == n) ≡ true → m ≡ n
number-same m n e = grind (arith, nat_tests, e)

number-self : (n : ℕ) → (n == n) ≡ true
number-self n = grind (arith, nat_tests)

list-equal : {A : Type 0} (kind : List A) (place : A → ℕ) → ((x : A) → slice_get kind (place x) ≡ Some x) →
    (xs ys : List A) → same_list place xs ys ≡ true → xs ≡ ys
list-equal kind place stands [] [] e = refl
list-equal kind place stands [] (y ∷ ys) e = absurd (cc)
list-equal kind place stands (x ∷ xs) [] e = absurd (cc)
list-equal kind place stands (x ∷ xs) (y ∷ ys) e =
    let both = both-true (place x == place y) (same_list place xs ys) e in
    ap (λ z. z ∷ xs) (same-place kind place stands x y (number-same (place x) (place y) both.0)) ∙ ap (λ l. y ∷ l) (list-equal kind place stands xs ys both.1)

list-self : {A : Type 0} (place : A → ℕ) (xs : List A) → same_list place xs xs ≡ true
list-self place [] = refl
list-self place (x ∷ xs) = rw (number-self (place x)) (list-self place xs)

-- the same by their numbers, and so equal
pub entry-equal : {S A : Type 0} (states : List S) (row : S → ℕ) → ((x : S) → slice_get states (row x) ≡ Some x) →
    (kind : List A) (place : A → ℕ) → ((x : A) → slice_get kind (place x) ≡ Some x) →
    (x y : CellEntry S A) → same_entry row place x y ≡ true → x ≡ y
entry-equal states row stands kind place stand Blank Blank e = refl
entry-equal states row stands kind place stand Blank Stall e = absurd (cc)
entry-equal states row stands kind place stand Blank (Act n b) e = absurd (cc)
entry-equal states row stands kind place stand Stall Blank e = absurd (cc)
entry-equal states row stands kind place stand Stall Stall e = refl
entry-equal states row stands kind place stand Stall (Act n b) e = absurd (cc)
entry-equal states row stands kind place stand (Act m a) Blank e = absurd (cc)
entry-equal states row stands kind place stand (Act m a) Stall e = absurd (cc)
entry-equal states row stands kind place stand (Act m a) (Act n b) e =
    let both = both-true (row m == row n) (same_list place a b) e in
    ap (λ s. Act s a) (same-place states row stands m n (number-same (row m) (row n) both.0)) ∙ ap (λ l. Act n l) (list-equal kind place stand a b both.1)

-- an entry is the same as itself
pub entry-self : {S A : Type 0} (row : S → ℕ) (place : A → ℕ) (x : CellEntry S A) → same_entry row place x x ≡ true
entry-self row place Blank = refl
entry-self row place Stall = refl
entry-self row place (Act next actions) = rw (number-self (row next)) (list-self place actions)

pub same-equal : {S A : Type 0} (states : List S) (row : S → ℕ) → ((x : S) → slice_get states (row x) ≡ Some x) →
    (kind : List A) (place : A → ℕ) → ((x : A) → slice_get kind (place x) ≡ Some x) →
    (x y : CellEntry S A) → (same_entry row place x y ≡ true) ↔ (x ≡ y)
same-equal states row stands kind place stand x y =
    (entry-equal states row stands kind place stand x y, λ e. subst (λ z. same_entry row place x z ≡ true) e (entry-self row place x))
