-- Which piece of a recording's text has which number.
use Rattle.std.proofs.Common.{◌≡◌, ◌<◌, ◌+◌, ℕ, zero, suc, List, [], ◌∷◌, ◌++◌, Some, length, map, get_or, ap, sym, subst, ◌∙◌, arith}
use Rattle.std.proofs.lemmas.List.{length-map, get_or_append_left, get_or-append-add, get_or-map}
use Rattle.std.proofs.Math.Seq.{get_or-append_seam}
use Rattle.tables.specs.CellPlaces.{all_places}
use Rattle.tables.specs.declared.cell_places.CellPlace.{CellPlace}
use Rattle.record_lines.specs.Grammar.{FitsEntry}
use Rattle.record_lines.specs.declared.entry.Entry.{Entry}
use Rattle.std.specs.Prelude.{slice_get}
use Rattle.record_lines.specs.declared.told.Told.{Told}
use Rattle.record.proofs.Owners.{tell, told-at, told-length}
use Rattle.record.specs.View.{RecordingView}
use Rattle.record.specs.Text.{changed_cells, told}
use Rattle.record.specs.inner.Pieces.{pieces, value_piece, cells_piece, cell_piece, entries_piece, told_piece, end_piece}

-- one behind a list and what follows it
seam : {X : Type 0} (xs : List X) (y : X) (ys : List X) (n : ℕ) (d : X) → n ≡ length xs → get_or (xs ++ y ∷ ys) n d ≡ y
seam xs y ys n d e = ap (λ k. get_or (xs ++ y ∷ ys) k d) e ∙ get_or-append_seam xs y ys d

past : {X : Type 0} (xs : List X) (y : X) (ys : List X) (n i : ℕ) (d : X) → n ≡ length xs + suc i → get_or (xs ++ y ∷ ys) n d ≡ get_or ys i d
past xs y ys n i d e = ap (λ k. get_or (xs ++ y ∷ ys) k d) e ∙ get_or-append-add xs (y ∷ ys) (suc i) d

among : {X : Type 0} (f : X → List ℕ) (xs : List X) (rest : List (List ℕ)) (i : ℕ) (d : X) → i < length xs →
    get_or (map f xs ++ rest) i [] ≡ f (get_or xs i d)
among f xs rest i d low =
    get_or_append_left (map f xs) rest [] i (omega (arith, low, length-map xs f)) ∙ get_or-map f xs i d [] low

-- what stands behind the pieces of the opening values, and behind those of the cells
abbrev behind_cells : RecordingView → List (List ℕ)
behind_cells r = entries_piece (length r.entries) ∷ map told_piece (told r.owners r.entries) ++ end_piece ∷ []

abbrev behind_values : RecordingView → List (List ℕ)
behind_values r = map (cell_piece r.tables) all_places ++ behind_cells r

next : (r : RecordingView) (n i : ℕ) → n ≡ i + 1 →
    get_or (pieces r) n [] ≡ get_or (map value_piece r.opening ++ cells_piece (length (changed_cells r.tables)) ∷ behind_values r) i []
next r n i e = let is : n ≡ suc i = omega (arith, e) in ap (λ k. get_or (pieces r) k []) is

past-values : (r : RecordingView) (n i : ℕ) → n ≡ length r.opening + 2 + i → get_or (pieces r) n [] ≡ get_or (behind_values r) i []
past-values r n i e =
    let count = length-map r.opening value_piece in
    next r n (length r.opening + 1 + i) (omega (arith, e))
    ∙ past (map value_piece r.opening) (cells_piece (length (changed_cells r.tables))) (behind_values r) (length r.opening + 1 + i) i [] (omega (arith, count))

past-cells : (r : RecordingView) (n i : ℕ) → n ≡ length r.opening + 187 + i →
    get_or (pieces r) n [] ≡ get_or (map told_piece (told r.owners r.entries) ++ end_piece ∷ []) i []
past-cells r n i e =
    let count = length-map all_places (cell_piece r.tables) in
    past-values r n (185 + i) (omega (arith, e))
    ∙ past (map (cell_piece r.tables) all_places) (entries_piece (length r.entries)) (map told_piece (told r.owners r.entries) ++ end_piece ∷ [])
    (185 + i) i [] (omega (arith, count))

pub value-at : (r : RecordingView) (n i : ℕ) (d : ℕ) → n ≡ i + 1 → i < length r.opening → get_or (pieces r) n [] ≡ value_piece (get_or r.opening i d)
value-at r n i d e low = next r n i e ∙ among value_piece r.opening _ i d low

pub cells-at : (r : RecordingView) (n : ℕ) → n ≡ length r.opening + 1 → get_or (pieces r) n [] ≡ cells_piece (length (changed_cells r.tables))
cells-at r n e =
    let count = length-map r.opening value_piece in
    next r n (length r.opening) e
    ∙ seam (map value_piece r.opening) (cells_piece (length (changed_cells r.tables))) (behind_values r) (length r.opening) [] (omega (arith, count))

pub cell-at : (r : RecordingView) (n i : ℕ) (d : CellPlace) → n ≡ length r.opening + 2 + i → i < 184 →
    get_or (pieces r) n [] ≡ cell_piece r.tables (get_or all_places i d)
cell-at r n i d e low = past-values r n i e ∙ among (cell_piece r.tables) all_places (behind_cells r) i d low

pub entries-at : (r : RecordingView) (n : ℕ) → n ≡ length r.opening + 186 → get_or (pieces r) n [] ≡ entries_piece (length r.entries)
entries-at r n e =
    let count = length-map all_places (cell_piece r.tables) in
    past-values r n 184 (omega (arith, e))
    ∙ seam (map (cell_piece r.tables) all_places) (entries_piece (length r.entries)) (map told_piece (told r.owners r.entries) ++ end_piece ∷ []) 184 []
    (omega (arith, count))

pub entry-at : (r : RecordingView) (n i : ℕ) (t : Told) → n ≡ length r.opening + 187 + i → i < length r.entries → t.owner ≡ slice_get r.owners i →
    slice_get r.entries i ≡ Some t.entry → get_or (pieces r) n [] ≡ told_piece t
entry-at r n i t e low owner entry =
    let ts : List Told = told r.owners r.entries in
    let m : length ts ≡ length r.entries = told-length r.owners r.entries in
    past-cells r n i e ∙ among told_piece ts (end_piece ∷ []) i t (omega (arith, m, low))
    ∙ ap told_piece (told-at r.owners r.entries i t t.entry low ∙ ap (λ o. tell o (get_or r.entries i t.entry)) (sym owner)
    ∙ ap (tell t.owner) (here r.entries i t.entry low entry))
  where
    here : (es : List Entry) (i : ℕ) (x : Entry) → i < length es → slice_get es i ≡ Some x → get_or es i x ≡ x
    here [] i x low is = absurd (omega (arith, low))
    here (e ∷ es) zero x low is = let same : e ≡ x = cc in same
    here (e ∷ es) (suc i) x low is = here es i x (omega (arith, low)) is

pub end-at : (r : RecordingView) (n : ℕ) → n ≡ length r.opening + 187 + length r.entries → get_or (pieces r) n [] ≡ end_piece
end-at r n e =
    let ts : List Told = told r.owners r.entries in
    let count = length-map ts told_piece in
    let m : length ts ≡ length r.entries = told-length r.owners r.entries in
    past-cells r n (length r.entries) e ∙ seam (map told_piece ts) end_piece [] (length r.entries) [] (omega (arith, count, m))

-- the entry at a place fits, if the one that is there does
pub fits-here : (xs : List Entry) (i k : ℕ) (d x : Entry) → i ≡ k → k < length xs → slice_get xs i ≡ Some x → FitsEntry x → FitsEntry (get_or xs k d)
fits-here xs i k d x here low is fits =
    subst FitsEntry (sym (at xs k low (ap (λ n. slice_get xs n) (sym here) ∙ is))) fits
  where
    at : (es : List Entry) (k : ℕ) → k < length es → slice_get es k ≡ Some x → get_or es k d ≡ x
    at [] k low is = absurd (omega (arith, low))
    at (e ∷ es) zero low is = let same : e ≡ x = cc in same
    at (e ∷ es) (suc k) low is = at es k (omega (arith, low)) is
