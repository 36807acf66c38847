-- The text of a recording, piece by piece.
use Rattle.std.proofs.Common.{◌≡◌, ◌<◌, ◌+◌, ℕ, List, [], ◌∷◌, ◌++◌, Option, length, take, map, refl, ap, sym, ◌∙◌, subst, codes, arith, append_assoc}
use Rattle.std.proofs.Common.{length-append}
use Rattle.std.specs.Io.KnownBytes.{Appends}
use Rattle.std.proofs.lemmas.List.{append-nil, length-map}
use Rattle.std.proofs.lemmas.Grind.{flat_map-append}
use Rattle.std.specs.List.{flat_map}
use Rattle.std.specs.Fmt.{decimal}
use Rattle.tables.specs.CellPlaces.{all_places}
use Rattle.record.specs.View.{RecordingView}
use Rattle.record_lines.specs.Cells.{cell_words}
use Rattle.record.specs.Text.{text, head_lines, changed_cells, told}
use Rattle.record_lines.specs.Text.{line, header_words, shape_words, cells_words, entries_words, told_words, end_words}
use Rattle.record.specs.inner.Pieces.{IsOut, IsCutOff, pieces, head_piece, value_piece, cells_piece, cell_piece, entries_piece, told_piece, end_piece}
use Rattle.record_lines.specs.declared.told.Told.{Told}
use Rattle.record_lines.specs.declared.version.Version.TheVariants.{Two}
use Rattle.record_lines.specs.Versions.{protocol_words, seats_words}
use Rattle.record.proofs.Owners.{told-length}
use Rattle.record.proofs.Changed.{changed-lines}
use Rattle.record.proofs.Outs.{cut-same, out-same}

pub flat_map-map : {X Y : Type 0} (f : Y → List ℕ) (g : X → Y) (xs : List X) → flat_map f (map g xs) ≡ flat_map (λ x. f (g x)) xs
flat_map-map f g [] = refl
flat_map-map f g (x ∷ xs) = ap (λ l. f (g x) ++ l) (flat_map-map f g xs)

-- the pieces of a list, one after the other
abbrev pub flat : List (List ℕ) → List ℕ
flat pieces = flat_map (λ piece. piece) pieces

flat-then : {X : Type 0} (f : X → List ℕ) (xs : List X) (rest : List (List ℕ)) → flat (map f xs ++ rest) ≡ flat_map f xs ++ flat rest
flat-then f xs rest =
    flat_map-append (λ piece. piece) (map f xs) rest ∙ ap (λ l. l ++ flat rest) (flat_map-map (λ piece. piece) f xs)

regroup : (h p s n o os c cs e es end : List ℕ) →
    (h ++ p ++ s ++ n ++ o) ++ (os ++ ((10 ∷ c) ++ (cs ++ (e ++ (es ++ (end ++ []))))))
    ≡ (h ++ (p ++ (s ++ (n ++ (((o ++ os) ++ 10 ∷ []) ++ []))))) ++ (c ++ (cs ++ (e ++ (es ++ (end ++ [])))))
regroup h p s n o os c cs e es end = simp (append_assoc, append-nil)

-- the pieces make the text
pub whole-text : (r : RecordingView) → flat (pieces r) ≡ text Two r
whole-text r =
    let cells : List (List (List ℕ)) = map cell_words (changed_cells r.tables) in
    let ts : List Told = told r.owners r.entries in
    let entries : List (List (List ℕ)) = map told_words ts in
    let count = length (changed_cells r.tables) in
    let head : List (List (List ℕ)) = head_lines Two r in
    let behind : List (List ℕ) = entries_piece (length r.entries) ∷ map told_piece ts ++ end_piece ∷ [] in
    let first : List ℕ = head_piece r.tables.protocol r.shape r.seats in
    ap (λ l. first ++ l)
    (flat-then value_piece r.opening (cells_piece count ∷ map (cell_piece r.tables) all_places ++ behind)
    ∙ ap (λ l. flat_map value_piece r.opening ++ (cells_piece count ++ l))
    (flat-then (cell_piece r.tables) all_places behind
    ∙ ap (λ l. flat_map (cell_piece r.tables) all_places ++ (entries_piece (length r.entries) ++ l)) (flat-then told_piece ts (end_piece ∷ []))))
    ∙ regroup (line (header_words Two)) (line (protocol_words r.tables.protocol)) (line (shape_words r.shape)) (line (seats_words r.seats)) (codes "opening")
    (flat_map value_piece r.opening) (line (cells_words count))
    (flat_map (cell_piece r.tables) all_places) (line (entries_words (length r.entries))) (flat_map told_piece ts) (line end_words)
    ∙ ap
    (λ os. (line (header_words Two) ++
    (line (protocol_words r.tables.protocol) ++
    (line (shape_words r.shape) ++ (line (seats_words r.seats) ++ (((codes "opening" ++ os) ++ 10 ∷ []) ++ []))))) ++
    (line (cells_words count) ++
    (flat_map (cell_piece r.tables) all_places ++
    (line (entries_words (length r.entries)) ++ (flat_map told_piece ts ++ (line end_words ++ []))))))
    (sym (flat_map-map (λ word. 32 ∷ word) decimal r.opening))
    ∙ ap (λ rest. flat_map line head ++ (line (cells_words count) ++ rest))
    (ap (λ cs. cs ++ (line (entries_words (length r.entries)) ++ (flat_map told_piece ts ++ (line end_words ++ [])))) (changed-lines r.tables all_places)
    ∙ ap (λ es. flat_map line cells ++ (line (entries_words (length r.entries)) ++ (es ++ (line end_words ++ []))))
    (sym (flat_map-map line told_words ts))
    ∙ ap (λ es. flat_map line cells ++ (line (entries_words (length r.entries)) ++ es)) (sym (flat_map-append line entries (end_words ∷ [])))
    ∙ sym (flat_map-append line cells (entries_words (length r.entries) ∷ entries ++ end_words ∷ [])))
    ∙ sym (flat_map-append line head (cells_words count ∷ cells ++ (entries_words (length r.entries) ∷ entries ++ end_words ∷ [])))

-- how many pieces there are
pub pieces-count : (r : RecordingView) → length (pieces r) ≡ length r.opening + 188 + length r.entries
pieces-count r =
    let behind : List (List ℕ) = entries_piece (length r.entries) ∷ map told_piece (told r.owners r.entries) ++ end_piece ∷ [] in
    omega (
      arith,
      length-append (map value_piece r.opening) (cells_piece (length (changed_cells r.tables)) ∷ map (cell_piece r.tables) all_places ++ behind),
      length-append (map (cell_piece r.tables) all_places) behind,
      length-append (map told_piece (told r.owners r.entries)) (end_piece ∷ []),
      told-length r.owners r.entries,
      length-map r.opening value_piece,
      length-map all_places (cell_piece r.tables),
      length-map (told r.owners r.entries) told_piece,
    )

-- where a sink failed, exactly a front of the text went out
pub cut-text : (r : RecordingView) (b n : Option (List ℕ)) (to : ℕ) → IsCutOff b n (flat (pieces r)) 0 to →
    Appends b n (take to (text Two r)) × (to < length (text Two r))
cut-text r b n to cut =
    let whole : IsCutOff b n (text Two r) 0 to = cut-same b n _ (text Two r) 0 to (whole-text r) cut in
    let is : whole.count ≡ to = omega (arith, whole.sum) in
    (subst (λ (k : ℕ). Appends b n (take k (text Two r))) is whole.front, subst (λ (k : ℕ). k < length (text Two r)) is whole.short)

-- else all of it did
pub out-text : (r : RecordingView) (b n : Option (List ℕ)) (to : ℕ) → IsOut b n (flat (pieces r)) 0 to → Appends b n (text Two r)
out-text r b n to out = (out-same b n _ (text Two r) 0 to (whole-text r) out).all
