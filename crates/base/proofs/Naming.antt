-- Looking for a name in a list, one thing after the other.
use Rattle.std.proofs.Common.{◌≡◌, ◌≢◌, ◌<◌, ◌+◌, ℕ, zero, suc, Bool, true, false, List, [], ◌∷◌, Option, None, Some, if◌then◌else◌}
use Rattle.std.proofs.Common.{length, drop, get_or, refl, ap, sym, ◌∙◌, arith}
use Rattle.std.specs.Prelude.{MatchOption, slice_get}
use Rattle.std.specs.List.{find}
use Rattle.std.specs.Str.{bytes_eq}
use Rattle.std.proofs.lemmas.List.{drop_more}
use Rattle.std.proofs.lemmas.Option.{slice_get_within, get_or_from_slice_get}
use Rattle.std.proofs.lemmas.Slice.Eq.{bytes_eq-Decides}
use Rattle.base.specs.Spelling.{named_in}

-- the thing at a place is found, if none before it was
pub found-here : {X : Type 0} (p : X → Bool) (xs : List X) (i : ℕ) (d : X) → i < length xs → p (get_or xs i d) ≡ true →
    find p (drop i xs) ≡ Some (get_or xs i d)
found-here p xs i d low is =
    ap (find p) (drop_more xs i d low) ∙ ap (λ b. if b then Some (get_or xs i d) else find p (drop (i + 1) xs)) is

-- else it is among those behind it
pub found-later : {X : Type 0} (p : X → Bool) (xs : List X) (i : ℕ) (d : X) → i < length xs → p (get_or xs i d) ≡ false →
    find p (drop i xs) ≡ find p (drop (i + 1) xs)
found-later p xs i d low is =
    ap (find p) (drop_more xs i d low) ∙ ap (λ b. if b then Some (get_or xs i d) else find p (drop (i + 1) xs)) is

weaker : {X : Type 0} (o : Option X) (P R : Type 0) (Q : X → Type 0) → (P → R) → MatchOption o P Q → MatchOption o R Q
weaker None P R Q f h = f h
weaker (Some x) P R Q f h = h

-- what is found has the name, and where nothing is found no thing of the list has it
found-spelled : {X : Type 0} (spelling : X → List ℕ) (text : List ℕ) (xs : List X) →
    MatchOption (named_in spelling xs text) ((i : ℕ) (d : X) → i < length xs → text ≢ spelling (get_or xs i d)) (λ x. text ≡ spelling x)
found-spelled spelling text [] = λ i d low. absurd (omega (arith, low))
found-spelled {X} spelling text (x ∷ xs) = by-test (bytes_eq (spelling x) text) refl (found-spelled spelling text xs)
  where
    HasNone : List X → Type 0
    HasNone ys = (i : ℕ) (d : X) → i < length ys → text ≢ spelling (get_or ys i d)

    none-more : bytes_eq (spelling x) text ≡ false → HasNone xs → HasNone (x ∷ xs)
    none-more differs none zero d low = λ is.
        let yes : bytes_eq (spelling x) text ≡ true = (bytes_eq-Decides (spelling x) text).1 (sym is) in
        absurd (cc)
    none-more differs none (suc i) d low = none i d (omega (arith, low))

    by-test : (b : Bool) → bytes_eq (spelling x) text ≡ b → MatchOption (named_in spelling xs text) (HasNone xs) (λ y. text ≡ spelling y) →
        MatchOption (if b then Some x else named_in spelling xs text) (HasNone (x ∷ xs)) (λ y. text ≡ spelling y)
    by-test true is rest = sym ((bytes_eq-Decides (spelling x) text).0 is)
    by-test false differs rest =
        weaker (named_in spelling xs text) (HasNone xs) (HasNone (x ∷ xs)) (λ y. text ≡ spelling y) (none-more differs) rest

-- where each thing there is stands in the list, nothing is found only where none has the name
pub all-spelled : {X : Type 0} (spelling : X → List ℕ) (text : List ℕ) (xs : List X) (place : X → ℕ) →
    ((x : X) → slice_get xs (place x) ≡ Some x) → MatchOption (named_in spelling xs text) ((x : X) → text ≢ spelling x) (λ x. text ≡ spelling x)
all-spelled spelling text xs place stands =
    weaker (named_in spelling xs text) _ _ (λ x. text ≡ spelling x)
    (λ none x is. none (place x) x (slice_get_within xs (place x) x (stands x)) (is ∙ ap spelling (sym (get_or_from_slice_get xs (place x) x x (stands x)))))
    (found-spelled spelling text xs)
