-- The cells that differ from the protocol's own.
use Rattle.std.proofs.Common.{◌≡◌, ℕ, ◌+◌, ◌<◌, List, [], ◌∷◌, ◌++◌, Bool, true, false, cond, length, take, get_or, map, refl, ap, ◌∙◌, length-append}
use Rattle.std.specs.Prelude.{filter}
use Rattle.std.specs.List.{flat_map}
use Rattle.std.proofs.lemmas.List.{take_more}
use Rattle.tables.specs.Tables.{Tables}
use Rattle.tables.specs.declared.cell_places.CellPlace.{CellPlace}
use Rattle.record_lines.specs.Cells.{cell_at, cell_words}
use Rattle.record_lines.specs.Text.{line}
use Rattle.record.specs.Text.{is_changed, changed}
use Rattle.record.specs.inner.Pieces.{cell_piece}

pub changed-cons : (tables : Tables) (place : CellPlace) (places : List CellPlace) (b : Bool) → is_changed tables place ≡ b →
    changed tables (place ∷ places) ≡ cond b (cell_at tables place ∷ changed tables places) (changed tables places)
changed-cons tables place places true e =
    ap (λ t. map (cell_at tables) (cond t (place ∷ filter (is_changed tables) places) (filter (is_changed tables) places))) e
changed-cons tables place places false e =
    ap (λ t. map (cell_at tables) (cond t (place ∷ filter (is_changed tables) places) (filter (is_changed tables) places))) e

-- the cells that differ, of two lists of places
pub changed-append : (tables : Tables) (front rest : List CellPlace) → changed tables (front ++ rest) ≡ changed tables front ++ changed tables rest
changed-append tables [] rest = refl
changed-append tables (place ∷ front) rest =
    elim (is_changed tables place) as
    (λ b. map (cell_at tables) (cond b (place ∷ filter (is_changed tables) (front ++ rest)) (filter (is_changed tables) (front ++ rest))) ≡ map
    (cell_at tables) (cond b (place ∷ filter (is_changed tables) front) (filter (is_changed tables) front)) ++ changed tables rest) [
      | true ↦ ap (λ l. cell_at tables place ∷ l) (changed-append tables front rest)
      | false ↦ changed-append tables front rest
    ]

-- how many cells differ, one place further
pub count-more : (tables : Tables) (places : List CellPlace) (k : ℕ) (d : CellPlace) (b : Bool) → k < length places →
    is_changed tables (get_or places k d) ≡ b → length (changed tables (take (k + 1) places)) ≡ length (changed tables (take k places)) + cond b 1 0
count-more tables places k d b low e =
    ap (λ l. length (changed tables l)) (take_more places k d low) ∙ ap length (changed-append tables (take k places) (get_or places k d ∷ []))
    ∙ length-append (changed tables (take k places)) (changed tables (get_or places k d ∷ []))
    ∙ ap (λ n. length (changed tables (take k places)) + n) (one b e)
  where
    one : (b : Bool) → is_changed tables (get_or places k d) ≡ b → length (changed tables (get_or places k d ∷ [])) ≡ cond b 1 0
    one true e = ap length (changed-cons tables (get_or places k d) [] true e)
    one false e = ap length (changed-cons tables (get_or places k d) [] false e)

-- the lines of the cells that differ
pub changed-lines : (tables : Tables) (places : List CellPlace) → flat_map (cell_piece tables) places ≡ flat_map line (map cell_words (changed tables places))
changed-lines tables [] = refl
changed-lines tables (place ∷ places) =
    elim (is_changed tables place) as
    (λ b. cond b (line (cell_words (cell_at tables place))) [] ++ flat_map (cell_piece tables) places ≡ flat_map line
    (map cell_words (map (cell_at tables) (cond b (place ∷ filter (is_changed tables) places) (filter (is_changed tables) places))))) [
      | true ↦ ap (λ l. line (cell_words (cell_at tables place)) ++ l) (changed-lines tables places)
      | false ↦ changed-lines tables places
    ]
