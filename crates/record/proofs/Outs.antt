-- Texts that go out part by part.
use Rattle.std.proofs.Common.{◌≡◌, ℕ, ◌+◌, ◌<◌, List, [], ◌∷◌, ◌++◌, Option, length, take, drop, get_or, ap, sym, ◌∙◌, subst, arith, suc}
use Rattle.std.proofs.Common.{length-append, take-append-drop}
use Rattle.std.proofs.lemmas.List.{take_more, append-nil, drop_more, take-append-le}
use Rattle.std.proofs.lemmas.Grind.{flat_map-append}
use Rattle.std.specs.List.{flat_map}
use Rattle.std.specs.Io.KnownBytes.{Appends}
use Rattle.std.proofs.KnownBytes.{Appends-trans}
use Rattle.record.specs.inner.Pieces.{IsOut, IsCutOff}

-- one text and then another
pub out-then : (b m n : Option (List ℕ)) (s u : List ℕ) (a t to : ℕ) → IsOut b m s a t → IsOut m n u t to → IsOut b n (s ++ u) a to
out-then b m n s u a t to first second = record {
  sum = omega (arith, first.sum, second.sum, length-append s u);
  all = Appends-trans b m n s u first.all second.all;
}

take-behind : (s u : List ℕ) (k : ℕ) → take (length s + k) (s ++ u) ≡ s ++ take k u
take-behind [] u k = ap (λ i. take i u) (let e : 0 + k ≡ k = omega arith in e)
take-behind (x ∷ s) u k = let e : length (x ∷ s) + k ≡ suc (length s + k) = omega arith in rw e (ap (λ l. x ∷ l) (take-behind s u k))

-- one text, and then a front of another
pub cut-then : (b m n : Option (List ℕ)) (s u : List ℕ) (a t to : ℕ) → IsOut b m s a t → IsCutOff m n u t to → IsCutOff b n (s ++ u) a to
cut-then b m n s u a t to first second = record {
  count = length s + second.count;
  short = omega (arith, second.short, length-append s u);
  sum = omega (arith, first.sum, second.sum);
  front = subst (Appends b n) (sym (take-behind s u second.count)) (Appends-trans b m n s (take second.count u) first.all second.front);
}

-- a front of a text is one of a longer text
pub cut-more : (b n : Option (List ℕ)) (s u : List ℕ) (a to : ℕ) → IsCutOff b n s a to → IsCutOff b n (s ++ u) a to
cut-more b n s u a to cut = record {
  count = cut.count;
  short = omega (arith, cut.short, length-append s u);
  sum = cut.sum;
  front = subst (Appends b n) (sym (take-append-le cut.count s u (omega (arith, cut.short)))) cut.front;
}

flat_map-one : {X : Type 0} (f : X → List ℕ) (xs : List X) (i : ℕ) (d : X) → i < length xs →
    flat_map f (take (i + 1) xs) ≡ flat_map f (take i xs) ++ f (get_or xs i d)
flat_map-one f xs i d low =
    ap (flat_map f) (take_more xs i d low) ∙ flat_map-append f (take i xs) (get_or xs i d ∷ [])
    ∙ ap (λ l. flat_map f (take i xs) ++ l) (append-nil (f (get_or xs i d)))

flat_map-parts : {X : Type 0} (f : X → List ℕ) (xs : List X) (i : ℕ) (d : X) → i < length xs →
    flat_map f xs ≡ flat_map f (take i xs) ++ (f (get_or xs i d) ++ flat_map f (drop (i + 1) xs))
flat_map-parts f xs i d low =
    ap (flat_map f) (sym (take-append-drop i xs)) ∙ flat_map-append f (take i xs) (drop i xs)
    ∙ ap (λ l. flat_map f (take i xs) ++ flat_map f l) (drop_more xs i d low)

-- the texts of one more element
pub out-more : {X : Type 0} (f : X → List ℕ) (xs : List X) (i : ℕ) (d : X) (b m n : Option (List ℕ)) (a t to : ℕ) (piece : List ℕ) → i < length xs →
    piece ≡ f (get_or xs i d) → IsOut b m (flat_map f (take i xs)) a t → IsOut m n piece t to → IsOut b n (flat_map f (take (i + 1) xs)) a to
out-more f xs i d b m n a t to piece low is first second =
    subst (λ (l : List ℕ). IsOut b n l a to) (ap (λ l. flat_map f (take i xs) ++ l) is ∙ sym (flat_map-one f xs i d low))
    (out-then b m n (flat_map f (take i xs)) piece a t to first second)

-- a front of the text of one element, behind those of the elements before it
pub cut-at : {X : Type 0} (f : X → List ℕ) (xs : List X) (i : ℕ) (d : X) (b m n : Option (List ℕ)) (a t to : ℕ) (piece : List ℕ) → i < length xs →
    piece ≡ f (get_or xs i d) → IsOut b m (flat_map f (take i xs)) a t → IsCutOff m n piece t to → IsCutOff b n (flat_map f xs) a to
cut-at f xs i d b m n a t to piece low is first second =
    subst (λ (l : List ℕ). IsCutOff b n l a to) (ap (λ l. flat_map f (take i xs) ++ (l ++ flat_map f (drop (i + 1) xs))) is ∙ sym (flat_map-parts f xs i d low))
    (cut-then b m n (flat_map f (take i xs)) (piece ++ flat_map f (drop (i + 1) xs)) a t to first
    (cut-more m n piece (flat_map f (drop (i + 1) xs)) t to second))

-- under an equal text
pub cut-same : (b n : Option (List ℕ)) (s u : List ℕ) (a to : ℕ) → s ≡ u → IsCutOff b n s a to → IsCutOff b n u a to
cut-same b n s u a to e cut = subst (λ (l : List ℕ). IsCutOff b n l a to) e cut

pub out-same : (b n : Option (List ℕ)) (s u : List ℕ) (a to : ℕ) → s ≡ u → IsOut b n s a to → IsOut b n u a to
out-same b n s u a to e out = subst (λ (l : List ℕ). IsOut b n l a to) e out
