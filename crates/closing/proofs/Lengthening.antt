-- Marks that are lengthened place by place.
use Rattle.std.proofs.Common.{◌≡◌, ◌<◌, ◌+◌, List, [], ◌∷◌, ◌++◌, refl, ap, arith, Bool, false, unwrap_or, length}
use Rattle.pairs.specs.declared.link.LinkPlace.{LinkPlace}
use Rattle.pairs.specs.inner.Short.{behind, head_of}
use Rattle.closing.specs.Closed.{lengthened}

pub one-longer : (link : List LinkPlace) (marks : List Bool) → 0 < length link →
    lengthened link marks ≡ unwrap_or (head_of marks) false ∷ lengthened (behind link) (behind marks)
one-longer [] marks lt = absurd (omega arith)
one-longer (x ∷ xs) [] lt = refl
one-longer (x ∷ xs) (mark ∷ marks) lt = refl

pub one-behind : {X : Type 0} (xs : List X) → 0 < length xs → length (behind xs) + 1 ≡ length xs
one-behind [] lt = absurd (omega arith)
one-behind (x ∷ xs) lt = omega arith

pub append-assoc : {X : Type 0} (xs : List X) (x : X) (ys : List X) → (xs ++ x ∷ []) ++ ys ≡ xs ++ x ∷ ys
append-assoc [] x ys = refl
append-assoc (y ∷ xs) x ys = ap (λ l. y ∷ l) (append-assoc xs x ys)

pub append-none : {X : Type 0} (xs : List X) → xs ++ [] ≡ xs
append-none [] = refl
append-none (x ∷ xs) = ap (λ l. x ∷ l) (append-none xs)

pub no-length : {X : Type 0} (xs : List X) → length xs ≡ 0 → xs ≡ []
no-length [] e = refl
no-length (x ∷ xs) e = absurd (omega (arith, e))
