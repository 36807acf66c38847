-- Parts more, of which nothing is left, change nothing that means anything.
use Rattle.std.proofs.Common.{◌≡◌, ℕ, zero, suc, List, [], ◌∷◌, ◌++◌, map, refl, sym, ap, ◌∙◌}
use Rattle.cursors.specs.Cursors.{Progress, Nothing, InSeq, InTimes, InBoth, Cons, first_part, first_parts, progress, progress_at}
use Rattle.scenario.specs.Tree.{plain, plain_all}
use Rattle.cursors.specs.declared.part.Part.{Part}
use Rattle.cursors.specs.declared.part.PartPlace.{PartPlace}
use Rattle.cursors.specs.declared.part.PartPlace.TheVariants as place
use Rattle.cursors.specs.inner.Parts.{Grows, parts_of, place_of}
use Rattle.cursors.proofs.Cursors.{progress-is}

pub grows-none : (ps : List Progress) → Grows ps ps
grows-none [] = tt
grows-none (p ∷ ps) = (refl, grows-none ps)

pub grows-more : (ps qs : List Progress) (q : Progress) → q ≡ Nothing → Grows ps qs → Grows ps (qs ++ q ∷ [])
grows-more [] [] q e h = (e, tt)
grows-more [] (r ∷ qs) q e h = (h.0, grows-more [] qs q e h.1)
grows-more (p ∷ ps) [] q e h = absurd h
grows-more (p ∷ ps) (r ∷ qs) q e h = (h.0, grows-more ps qs q e h.1)

first-same : (ps qs : List Progress) → Grows ps qs → first_part qs ≡ first_part ps
first-same [] [] h = refl
first-same [] (q ∷ qs) h = h.0
first-same (p ∷ ps) [] h = absurd h
first-same (p ∷ ps) (q ∷ qs) h = h.0

firsts-same : (n : ℕ) (ps qs : List Progress) → Grows ps qs → first_parts n qs ≡ first_parts n ps
firsts-same zero [] [] h = refl
firsts-same zero [] (q ∷ qs) h = refl
firsts-same zero (p ∷ ps) [] h = absurd h
firsts-same zero (p ∷ ps) (q ∷ qs) h = refl
firsts-same (suc n) [] [] h = refl
firsts-same (suc n) [] (q ∷ qs) h = rw h.0 (ap (Cons Nothing) (firsts-same n [] qs h.1))
firsts-same (suc n) (p ∷ ps) [] h = absurd h
firsts-same (suc n) (p ∷ ps) (q ∷ qs) h = rw h.0 (ap (Cons p) (firsts-same n ps qs h.1))

pub progress-same : {A : Type 0} (at : PartPlace A) (ps qs : List Progress) → Grows ps qs → progress_at at qs ≡ progress_at at ps
progress-same place.Nothing ps qs h = refl
progress-same (place.Whole t) ps qs h = refl
progress-same (place.InSeq ts) ps qs h = ap (λ p. InSeq p (plain_all ts.now)) (first-same ps qs h)
progress-same (place.InTimes n t) ps qs h = ap (λ p. InTimes p n (plain t.now)) (first-same ps qs h)
progress-same (place.InBoth n) ps qs h = ap InBoth (firsts-same n ps qs h)

map-push : {X : Type 0} (f : X → Progress) (xs : List X) (x : X) → map f (xs ++ x ∷ []) ≡ map f xs ++ f x ∷ []
map-push f [] x = refl
map-push f (y ∷ xs) x = ap (λ ps. f y ∷ ps) (map-push f xs x)

pub grows-push : {X : Type 0} (f : X → Progress) (ps : List Progress) (xs : List X) (x : X) → f x ≡ Nothing →
    Grows ps (map f xs) → Grows ps (map f (xs ++ x ∷ []))
grows-push f ps xs x e h = rw (map-push f xs x) (grows-more ps (map f xs) (f x) e h)

pub grown-same : {A B : Type 0} (p q : Part A B) → place_of q ≡ place_of p → Grows (parts_of p) (parts_of q) → progress q ≡ progress p
grown-same p q e h =
    progress-is q ∙ (ap (λ at. progress_at at (parts_of q)) e ∙ (progress-same (place_of p) (parts_of p) (parts_of q) h ∙ sym (progress-is p)))
