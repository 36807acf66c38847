-- How far a cursor is, by its place and its parts.
use Rattle.std.proofs.Common.{◌≡◌, ℕ, zero, suc, List, [], ◌∷◌, ◌++◌, Some, Bool, true, false, ◌&&◌}
use Rattle.std.proofs.Common.{cond, Ok, Err, append_assoc, map, drop, slice_get}
use Rattle.std.proofs.Common.{take, min, length, ◌+◌, ◌<◌, ◌≤◌, refl, sym, ap, ◌∙◌, arith}
use Rattle.std.specs.declared.vec.Vec.{Vec}
use Rattle.cursors.specs.declared.part.Part.{Part, Fresh, Begun', Row_of-Part, end_of-Part, more_of-Part}
use Rattle.cursors.specs.declared.part.Part.{items-the_row-Part, items_hidden-the_row-Part-0}
use Rattle.cursors.specs.declared.part.Part.TheBlock.{hidden-the_row-Part-0}
use Rattle.cursors.specs.declared.part.Part.TheVariants.{Begun}
use Rattle.cursors.specs.declared.part.PartPlace.{PartPlace}
use Rattle.cursors.specs.declared.part.PartPlace.TheVariants as place
use Rattle.base.specs.declared.step.CoreAsk.{CoreAsk}
use Rattle.scenario.specs.Tree.{trees_of}
use Rattle.scenario.specs.Taking.{ends, all_end, offers, offers_of_all}
use Rattle.cursors.specs.Cursors.{Progress, first_parts, progress, progress_at, progress_row, tree_left, trees_left}
use Rattle.cursors.specs.inner.Parts.{all_left, behind, count_at, height, height_of_all, highest, part_left, parts_of, place_of}
use Rattle.scenario.specs.Seeking.{sought}
use Rattle.scenario.proofs.Places.{drop_here}
use Rattle.scenario.proofs.Sought.{found-all, passed-all, sought-front, sought-behind}
use Rattle.scenario.proofs.Flat.{and_true, append-neither}
use Rattle.cursors.proofs.Stock.{stock-Begun, stock-row}

row_items : (A B : Type 0) {n : _} (k : Row_of-Part A B n) → progress_row k ≡ map progress (items-the_row-Part A B n k)
row_items A B end_of-Part = refl
row_items A B (more_of-Part p row) = ap (λ ps. progress p ∷ ps) (row_items A B row)

pub parts-row : {A B : Type 0} (v : Vec (Part A B) B) → progress_row (hidden-the_row-Part-0 A B v) ≡ map progress v.items
parts-row {A} {B} v = row_items A B (hidden-the_row-Part-0 A B v) ∙ ap (map progress) (items_hidden-the_row-Part-0 A B v)

pub parts-Begun : {A B : Type 0} (at : PartPlace A) (v : Vec (Part A B) B) → parts_of (Begun at v) ≡ map progress v.items
parts-Begun at v = parts-row v

pub place-Begun : {A B : Type 0} (at : PartPlace A) (v : Vec (Part A B) B) → place_of (Begun at v) ≡ at
place-Begun at v = refl

pub progress-is : {A B : Type 0} (p : Part A B) → progress p ≡ progress_at (place_of p) (parts_of p)
progress-is (Fresh at) = refl
progress-is (Begun' at shape row) = refl

pub ruleset parts = (parts-Begun, parts-row, place-Begun, progress-is, stock-Begun, stock-row)

-- ---- how far the parts of a cursor go down

highest-first : (n : ℕ) (ps : List Progress) → highest (take n ps) ≤ height_of_all (first_parts n ps)
highest-first zero [] = omega arith
highest-first zero (p ∷ ps) = omega arith
highest-first (suc n) [] = omega arith
highest-first (suc n) (p ∷ ps) = let h = highest-first n ps in omega (arith, h)

-- the parts in use go less far down
pub parts-lower : {A : Type 0} (at : PartPlace A) (ps : List Progress) → highest (take (count_at at) ps) < height (progress_at at ps)
parts-lower place.Nothing [] = omega arith
parts-lower place.Nothing (p ∷ ps) = omega arith
parts-lower (place.Whole t) [] = omega arith
parts-lower (place.Whole t) (p ∷ ps) = omega arith
parts-lower (place.InSeq ts) [] = omega arith
parts-lower (place.InSeq ts) (p ∷ []) = omega arith
parts-lower (place.InSeq ts) (p ∷ q ∷ ps) = omega arith
parts-lower (place.InTimes n t) [] = omega arith
parts-lower (place.InTimes n t) (p ∷ []) = omega arith
parts-lower (place.InTimes n t) (p ∷ q ∷ ps) = omega arith
parts-lower (place.InBoth n) ps = let h = highest-first n ps in omega (arith, h)

-- each goes no further down than the highest
pub highest-get : {X : Type 0} (f : X → Progress) (xs : List X) (i : ℕ) (x : X) → slice_get xs i ≡ Some x → height (f x) ≤ highest (map f xs)
highest-get f [] i x e = absurd (cc e)
highest-get f (y ∷ xs) zero x e = let e' : y ≡ x = cc e in rw (sym e') (omega arith)
highest-get f (y ∷ xs) (suc i) x e = let h = highest-get f xs i x e in omega (arith, h)

-- ---- what a cursor offers, by its parts

none-end : (n : ℕ) → all_end (trees_left (first_parts n [])) ≡ true
none-end zero = refl
none-end (suc n) = none-end n

ends-first : (n : ℕ) (ps : List Progress) → all_end (trees_left (first_parts n ps)) ≡ all_end (all_left (take n ps))
ends-first zero [] = refl
ends-first zero (p ∷ ps) = refl
ends-first (suc n) [] = none-end n
ends-first (suc n) (p ∷ ps) = ap (λ b. ends (tree_left p) && b) (ends-first n ps)

none-offer : (n : ℕ) → offers_of_all (trees_left (first_parts n [])) ≡ []
none-offer zero = refl
none-offer (suc n) = none-offer n

offers-first : (n : ℕ) (ps : List Progress) → offers_of_all (trees_left (first_parts n ps)) ≡ offers_of_all (all_left (take n ps))
offers-first zero [] = refl
offers-first zero (p ∷ ps) = refl
offers-first (suc n) [] = none-offer n
offers-first (suc n) (p ∷ ps) = ap (λ os. offers (tree_left p) ++ os) (offers-first n ps)

two-end : (a b : Bool) → (a && (b && true)) ≡ ((a && true) && b)
two-end true b = and_true b
two-end false b = refl

one-offers : (b : Bool) (xs ys : List CoreAsk) → xs ++ cond b ys [] ≡ (xs ++ []) ++ cond (b && true) ys []
one-offers b xs ys = rw (and_true b, append-neither true xs) refl

-- it may end where its parts may, and what is behind them
pub ends-parts : {A : Type 0} (at : PartPlace A) (ps : List Progress)
    → ends (tree_left (progress_at at ps)) ≡ (all_end (all_left (take (count_at at) ps)) && ends (behind at))
ends-parts place.Nothing [] = refl
ends-parts place.Nothing (p ∷ ps) = refl
ends-parts (place.Whole t) [] = refl
ends-parts (place.Whole t) (p ∷ ps) = refl
ends-parts (place.InSeq ts) [] = refl
ends-parts (place.InSeq ts) (p ∷ ps) = rw (and_true (ends (tree_left p))) refl
ends-parts (place.InTimes n t) [] = and_true _
ends-parts (place.InTimes n t) (p ∷ ps) = two-end (ends (tree_left p)) _
ends-parts (place.InBoth n) ps = ends-first n ps ∙ sym (and_true _)

-- its parts' offers come first, and where these may end those behind them
pub offers-parts : {A : Type 0} (at : PartPlace A) (ps : List Progress) → offers (tree_left (progress_at at ps))
    ≡ offers_of_all (all_left (take (count_at at) ps)) ++ cond (all_end (all_left (take (count_at at) ps))) (offers (behind at)) []
offers-parts place.Nothing [] = refl
offers-parts place.Nothing (p ∷ ps) = refl
offers-parts (place.Whole t) [] = refl
offers-parts (place.Whole t) (p ∷ ps) = refl
offers-parts (place.InSeq ts) [] = refl
offers-parts (place.InSeq ts) (p ∷ ps) = one-offers (ends (tree_left p)) (offers (tree_left p)) _
offers-parts (place.InTimes n t) [] = append-neither _ _
offers-parts (place.InTimes n t) (p ∷ ps) =
    ap (λ os. offers (tree_left p) ++ cond (ends (tree_left p)) os []) (append-neither _ _) ∙ one-offers (ends (tree_left p)) (offers (tree_left p)) _
offers-parts (place.InBoth n) ps = offers-first n ps ∙ sym (append-neither _ _)

-- as many as there are, of the first n
pub take-cut : {X Y : Type 0} (f : X → Y) (n : ℕ) (xs : List X) → map f (take (min n (length xs)) xs) ≡ take n (map f xs)
take-cut f zero [] = refl
take-cut f zero (x ∷ xs) = let e : min 0 (suc (length xs)) ≡ 0 = omega arith in rw e refl
take-cut f (suc n) [] = let e : min (suc n) 0 ≡ 0 = omega arith in rw e refl
take-cut f (suc n) (x ∷ xs) =
    let e : min (suc n) (suc (length xs)) ≡ suc (min n (length xs)) = omega arith in rw e (ap (λ ys. f x ∷ ys) (take-cut f n xs))

-- the same of a cursor, where its parts in use are known
pub cursor-ends : {A B : Type 0} (p : Part A B) (ps : List Progress) → ps ≡ take (count_at (place_of p)) (parts_of p)
    → ends (part_left p) ≡ (all_end (all_left ps) && ends (behind (place_of p)))
cursor-ends p ps e =
    ap (λ q. ends (tree_left q)) (progress-is p)
    ∙ (ends-parts (place_of p) (parts_of p) ∙ (ap (λ qs. all_end (all_left qs) && ends (behind (place_of p))) (sym e)))

pub cursor-ends-then : {A B : Type 0} (p : Part A B) (ps : List Progress) → ps ≡ take (count_at (place_of p)) (parts_of p)
    → all_end (all_left ps) ≡ true → ends (part_left p) ≡ ends (behind (place_of p))
cursor-ends-then p ps e end = cursor-ends p ps e ∙ ap (λ b. b && ends (behind (place_of p))) end

pub cursor-ends-else : {A B : Type 0} (p : Part A B) (ps : List Progress) → ps ≡ take (count_at (place_of p)) (parts_of p)
    → all_end (all_left ps) ≡ false → ends (part_left p) ≡ false
cursor-ends-else p ps e more = cursor-ends p ps e ∙ ap (λ b. b && ends (behind (place_of p))) more

pub cursor-offers : {A B : Type 0} (p : Part A B) (ps : List Progress) → ps ≡ take (count_at (place_of p)) (parts_of p)
    → offers (part_left p) ≡ offers_of_all (all_left ps) ++ cond (all_end (all_left ps)) (offers (behind (place_of p))) []
cursor-offers p ps e =
    ap (λ q. offers (tree_left q)) (progress-is p)
    ∙ (offers-parts (place_of p) (parts_of p)
    ∙ (ap (λ qs. offers_of_all (all_left qs) ++ cond (all_end (all_left qs)) (offers (behind (place_of p))) []) (sym e)))

-- what is appended, step by step
pub cursor-appends : {A B : Type 0} (p : Part A B) (ps : List Progress) → ps ≡ take (count_at (place_of p)) (parts_of p)
    → (old new : List CoreAsk) → new ≡ old ++ offers_of_all (all_left ps) → all_end (all_left ps) ≡ true
    → new ++ offers (behind (place_of p)) ≡ old ++ offers (part_left p)
cursor-appends p ps e old new h end =
    let all = cursor-offers p ps e ∙ ap (λ b. offers_of_all (all_left ps) ++ cond b (offers (behind (place_of p))) []) end in
    rw (h, all) (append_assoc old _ _)

pub cursor-stops : {A B : Type 0} (p : Part A B) (ps : List Progress) → ps ≡ take (count_at (place_of p)) (parts_of p)
    → (old new : List CoreAsk) → new ≡ old ++ offers_of_all (all_left ps) → all_end (all_left ps) ≡ false → new ≡ old ++ offers (part_left p)
cursor-stops p ps e old new h more =
    let all = cursor-offers p ps e ∙ ap (λ b. offers_of_all (all_left ps) ++ cond b (offers (behind (place_of p))) []) more in
    h ∙ ap (λ os. old ++ os) (sym (all ∙ append-neither true _))

-- ---- where an offer is

pub sought-cursor : {A B : Type 0} (p : Part A B) (ps : List Progress) → ps ≡ take (count_at (place_of p)) (parts_of p)
    → (i : ℕ) (ask : CoreAsk) → sought (offers_of_all (all_left ps)) i ≡ Ok ask → sought (offers (part_left p)) i ≡ Ok ask
sought-cursor p ps e i ask h = ap (λ os. sought os i) (cursor-offers p ps e) ∙ sought-front _ _ i ask h

pub sought-cursor-else : {A B : Type 0} (p : Part A B) (ps : List Progress) → ps ≡ take (count_at (place_of p)) (parts_of p)
    → (i r : ℕ) → sought (offers_of_all (all_left ps)) i ≡ Err r → all_end (all_left ps) ≡ false → sought (offers (part_left p)) i ≡ Err r
sought-cursor-else p ps e i r h stop =
    ap (λ os. sought os i) (cursor-offers p ps e) ∙ (sought-behind _ _ i r h ∙ ap (λ b. sought (cond b (offers (behind (place_of p))) []) r) stop)

pub sought-cursor-then : {A B : Type 0} (p : Part A B) (ps : List Progress) → ps ≡ take (count_at (place_of p)) (parts_of p)
    → (i r : ℕ) → sought (offers_of_all (all_left ps)) i ≡ Err r → all_end (all_left ps) ≡ true
    → sought (offers (part_left p)) i ≡ sought (offers (behind (place_of p))) r
sought-cursor-then p ps e i r h end =
    ap (λ os. sought os i) (cursor-offers p ps e) ∙ (sought-behind _ _ i r h ∙ ap (λ b. sought (cond b (offers (behind (place_of p))) []) r) end)

-- what is left of several, either way
pub map-left : {A B : Type 0} (ps : List (Part A B)) → map part_left ps ≡ map tree_left (map progress ps)
map-left [] = refl
map-left (p ∷ ps) = ap (λ ts. part_left p ∷ ts) (map-left ps)

pub found-in-parts : {A B : Type 0} (xs : List (Part A B)) (i k : ℕ) (x : Part A B) (ask : CoreAsk) → slice_get xs i ≡ Some x
    → sought (offers (part_left x)) k ≡ Ok ask → sought (offers_of_all (all_left (map progress (drop i xs)))) k ≡ Ok ask
found-in-parts xs i k x ask e h = ap (λ ts. sought (offers_of_all (trees_of ts)) k) (sym (map-left (drop i xs))) ∙ found-all part_left xs i k x ask e h

pub passed-in-parts : {A B : Type 0} (xs : List (Part A B)) (i k r : ℕ) (x : Part A B) → slice_get xs i ≡ Some x →
    sought (offers (part_left x)) k ≡ Err r
    → sought (offers_of_all (all_left (map progress (drop i xs)))) k ≡ sought (offers_of_all (all_left (map progress (drop (i + 1) xs)))) r
passed-in-parts xs i k r x e h =
    ap (λ ts. sought (offers_of_all (trees_of ts)) k) (sym (map-left (drop i xs)))
    ∙ (passed-all part_left xs i k r x e h ∙ ap (λ ts. sought (offers_of_all (trees_of ts)) r) (map-left (drop (i + 1) xs)))

-- ---- the parts from one on

pub ends-more : {A B : Type 0} (xs : List (Part A B)) (i : ℕ) (x : Part A B) → slice_get xs i ≡ Some x → ends (part_left x) ≡ true
    → all_end (all_left (map progress (drop i xs))) ≡ all_end (all_left (map progress (drop (i + 1) xs)))
ends-more xs i x e end =
    ap (λ ps. all_end (all_left (map progress ps))) (drop_here xs i x e) ∙ ap (λ b. b && all_end (all_left (map progress (drop (i + 1) xs)))) end

pub ends-not : {A B : Type 0} (xs : List (Part A B)) (i : ℕ) (x : Part A B) → slice_get xs i ≡ Some x → ends (part_left x) ≡ false
    → all_end (all_left (map progress (drop i xs))) ≡ false
ends-not xs i x e more =
    ap (λ ps. all_end (all_left (map progress ps))) (drop_here xs i x e) ∙ ap (λ b. b && all_end (all_left (map progress (drop (i + 1) xs)))) more

pub offers-more : {A B : Type 0} (xs : List (Part A B)) (i : ℕ) (x : Part A B) (out new : List CoreAsk) → slice_get xs i ≡ Some x
    → new ≡ out ++ offers (part_left x)
    → new ++ offers_of_all (all_left (map progress (drop (i + 1) xs))) ≡ out ++ offers_of_all (all_left (map progress (drop i xs)))
offers-more xs i x out new e h =
    ap (λ os. os ++ offers_of_all (all_left (map progress (drop (i + 1) xs)))) h
    ∙ (append_assoc out _ _ ∙ ap (λ ps. out ++ offers_of_all (all_left (map progress ps))) (sym (drop_here xs i x e)))
