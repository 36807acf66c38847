-- Parts that are made whole, one by one, but for one.
use Rattle.std.proofs.Common.{◌≡◌, ℕ, zero, suc, ◌+◌, ◌<◌, List, [], ◌∷◌, Option, Some, IfSome, length, take, map, slice_get}
use Rattle.std.proofs.Common.{slice_set, refl, sym, ap, ◌∙◌, subst, arith, add-one}
use Rattle.scenario.specs.declared.tree.Scenario.{Scenario}
use Rattle.scenario.specs.Tree.{Tree, plain}
use Rattle.cursors.specs.Cursors.{Progress, Whole}
use Rattle.cursors.specs.inner.Parts.{IsWholeBut}
use Rattle.scenario.proofs.Fronts.{same-head, same-tail}
use Rattle.scenario.proofs.Items.{get-map}

take-none : {X : Type 0} (xs : List X) → take 0 xs ≡ []
take-none [] = refl
take-none (x ∷ xs) = refl

one-more : {A X : Type 0} (f : X → Progress) (xs : List X) (ss : List (Scenario A)) (i : ℕ) (y : X) (s : Scenario A) → i < length xs
    → slice_get ss i ≡ Some s → f y ≡ Whole (plain s) → map f (take i xs) ≡ map Whole (map plain (take i ss))
    → map f (take (suc i) (slice_set xs i y)) ≡ map Whole (map plain (take (suc i) ss))
one-more f [] ss i y s h e is before = absurd (omega (arith, h))
one-more f (x ∷ xs) [] i y s h e is before = absurd (cc e)
one-more f (x ∷ xs) (u ∷ ss) zero y s h e is before =
    let e' : u ≡ s = cc e in
    let head : f y ≡ Whole (plain u) = is ∙ ap (λ v. Whole (plain v)) (sym e') in
    let tails : map f (take 0 xs) ≡ map Whole (map plain (take 0 ss)) =
    ap (map f) (take-none xs) ∙ sym (ap (λ us. map Whole (map plain us)) (take-none ss)) in
    rw head (ap (λ ps. Whole (plain u) ∷ ps) tails)
one-more f (x ∷ xs) (u ∷ ss) (suc i) y s h e is before =
    let first = same-head (f x) (Whole (plain u)) _ _ before in
    let others = one-more f xs ss i y s (omega (arith, h)) e is (same-tail (f x) (Whole (plain u)) _ _ before) in
    rw first (ap (λ ps. Whole (plain u) ∷ ps) others)

pub whole-more : {A X : Type 0} (f : X → Progress) (xs : List X) (ss : List (Scenario A)) (i : ℕ) (y : X) (s : Scenario A) → i < length xs
    → slice_get ss i ≡ Some s → f y ≡ Whole (plain s) → map f (take i xs) ≡ map Whole (map plain (take i ss))
    → map f (take (i + 1) (slice_set xs i y)) ≡ map Whole (map plain (take (i + 1) ss))
whole-more f xs ss i y s h e is before = rw add-one (one-more f xs ss i y s h e is before)

pub map-set : {X Y : Type 0} (f : X → Y) (xs : List X) (i : ℕ) (y : X) → map f (slice_set xs i y) ≡ slice_set (map f xs) i (f y)
map-set f [] i y = refl
map-set f (x ∷ xs) zero y = refl
map-set f (x ∷ xs) (suc i) y = ap (λ ys. f x ∷ ys) (map-set f xs i y)

take-set : {X : Type 0} (n : ℕ) (xs : List X) (i : ℕ) (y : X) → take n (slice_set xs i y) ≡ slice_set (take n xs) i y
take-set zero [] i y = refl
take-set zero (x ∷ xs) zero y = refl
take-set zero (x ∷ xs) (suc i) y = refl
take-set (suc n) [] i y = refl
take-set (suc n) (x ∷ xs) zero y = refl
take-set (suc n) (x ∷ xs) (suc i) y = ap (λ ys. x ∷ ys) (take-set n xs i y)

map-take : {X Y : Type 0} (f : X → Y) (n : ℕ) (xs : List X) → take n (map f xs) ≡ map f (take n xs)
map-take f zero [] = refl
map-take f zero (x ∷ xs) = refl
map-take f (suc n) [] = refl
map-take f (suc n) (x ∷ xs) = ap (λ ys. f x ∷ ys) (map-take f n xs)

pub whole-but : {X : Type 0} (f : X → Progress) (old xs new : List X) (k : ℕ) (b : X) (ts : List Tree) → slice_get old k ≡ Some b
    → new ≡ slice_set xs k b → map f (take (length ts) xs) ≡ map Whole ts → IsWholeBut k ts (map f old) (map f new)
whole-but f old xs new k b ts e is whole =
    let there = get-map f old k b e in
    let all : take (length ts) (map f new) ≡ slice_set (map Whole ts) k (f b) =
    ap (take (length ts)) (ap (map f) is ∙ map-set f xs k b)
    ∙ (take-set (length ts) (map f xs) k (f b) ∙ ap (λ ps. slice_set ps k (f b)) (map-take f (length ts) xs ∙ whole)) in
    subst (λ (o : Option Progress). IfSome o (λ p. take (length ts) (map f new) ≡ slice_set (map Whole ts) k p)) (sym there) all

set-back : {X : Type 0} (xs : List X) (k : ℕ) (b e : X) → slice_get xs k ≡ Some b → slice_set (slice_set xs k e) k b ≡ xs
set-back [] k b e h = absurd (cc h)
set-back (x ∷ xs) zero b e h = let h' : x ≡ b = cc h in ap (λ y. y ∷ xs) (sym h')
set-back (x ∷ xs) (suc k) b e h = ap (λ ys. x ∷ ys) (set-back xs k b e h)

-- as it was, once a part that was taken out is put back
pub put-back : {X Y : Type 0} (f : X → Y) (old xs : List X) (k : ℕ) (b e : X) → slice_get old k ≡ Some b
    → map f xs ≡ map f (slice_set old k e) → map f (slice_set xs k b) ≡ map f old
put-back f old xs k b e h same =
    map-set f xs k b
    ∙ (ap (λ ys. slice_set ys k (f b)) (same ∙ map-set f old k e) ∙ set-back (map f old) k (f b) (f e) (get-map f old k b h))
