-- Tables of cells: what is set in one is read there, and each other is as it was.
use Rattle.std.specs.Prelude.{◌≡◌, ◌≢◌, ◌⊎◌, ℕ, ◌<◌, All, true, false, ◌==◌, Option, Some, None, List, [], ◌∷◌, slice_get, unwrap_or}
use Rattle.std.specs.Option.{option_or}
use Rattle.std.proofs.Common.{refl, ap, sym, ◌∙◌, inl, inr, length, get_or, set, arith}
use Rattle.std.proofs.lemmas.List.{length-set, get_or_default, get_or-set_same, get_or-set_other}
use Rattle.std.proofs.lemmas.Option.{slice_get_within, get_or_from_slice_get}
use Rattle.std.proofs.lemmas.Bool.{cases_eq}
use Rattle.std.proofs.lemmas.Bool.Decides.{eqb_tells}
use Rattle.base.specs.declared.controller.entry.CellEntry.{CellEntry}
use Rattle.base.specs.declared.controller.entry.CellEntry.TheVariants.{Blank}
use Rattle.base.specs.declared.controller.entry.Change.{Change}
use Rattle.base.specs.Cells.{Cells, HasSize, cell_of, replaced, after_changes, entry_given, last_entry}

-- things that stand at one place of a list are the same
pub same-place : {X : Type 0} (xs : List X) (place : X → ℕ) → ((x : X) → slice_get xs (place x) ≡ Some x) →
    (x y : X) → place x ≡ place y → x ≡ y
same-place xs place stands x y e =
    sym (get_or_from_slice_get xs (place x) x x (stands x)) ∙ ap (λ n. get_or xs n x) e ∙ get_or_from_slice_get xs (place y) y x (stands y)

-- a row in place of another of its length
All-set : {X : Type 0} (columns : ℕ) (rows : List (List X)) (i : ℕ) (row : List X) → All (λ row. length row ≡ columns) rows → length row ≡ columns →
    All (λ row. length row ≡ columns) (set rows i row)
All-set {X} columns rows i row h e = λ k d low. by-place k d (omega (arith, length-set rows i row, low)) (cases_eq k i)
  where
    by-place : (k : ℕ) (d : List X) → k < length rows → (k ≡ i) ⊎ (k ≡ i → ⊥) → length (get_or (set rows i row) k d) ≡ columns
    by-place k d low (inl same) =
        ap (λ n. length (get_or (set rows i row) n d)) same ∙ ap (λ r. length r) (get_or-set_same rows i row d (omega (arith, same))) ∙ e
    by-place k d low (inr other) = ap (λ r. length r) (get_or-set_other rows i k row d other) ∙ h k d low

-- with another entry in a cell there are as many rows and columns
pub HasSize-set : {S A : Type 0} (rows columns : ℕ) (cells : Cells S A) (i j : ℕ) (x : CellEntry S A) → HasSize rows columns cells → i < rows →
    HasSize rows columns (set cells i (set (get_or cells i []) j x))
HasSize-set rows columns cells i j x h low = record {
  rows_are = length-set cells i (set (get_or cells i []) j x) ∙ h.rows_are;
  columns_are =
      All-set columns cells i (set (get_or cells i []) j x) h.columns_are
      (length-set (get_or cells i []) j x ∙ h.columns_are i [] (omega (arith, h.rows_are)));
}

-- within the table it doesn't matter what is read past its end
pub cell-default : {S A : Type 0} (rows columns : ℕ) (cells : Cells S A) (i j : ℕ) (d e : CellEntry S A) → HasSize rows columns cells → i < rows → j < columns →
    get_or (get_or cells i []) j d ≡ get_or (get_or cells i []) j e
cell-default rows columns cells i j d e h low few =
    get_or_default (get_or cells i []) j d e (omega (arith, h.columns_are i [] (omega (arith, h.rows_are))))

-- what was set in a row is read there
set-here : {S A : Type 0} (cells : Cells S A) (i j k l : ℕ) (x d : CellEntry S A) → i < length cells → j < length (get_or cells i []) → k ≡ i → l ≡ j →
    get_or (get_or (set cells i (set (get_or cells i []) j x)) k []) l d ≡ x
set-here cells i j k l x d in_rows in_row same_row same_column =
    rw (same_row, same_column)
    (ap (λ r. get_or r j d) (get_or-set_same cells i (set (get_or cells i []) j x) [] in_rows) ∙ get_or-set_same (get_or cells i []) j x d in_row)

-- what is read elsewhere is as it was, in the same row or another
set-elsewhere : {S A : Type 0} (cells : Cells S A) (i j k l : ℕ) (x d : CellEntry S A) → i < length cells → (k ≡ i → l ≡ j → ⊥) → (k ≡ i) ⊎ (k ≡ i → ⊥) →
    get_or (get_or (set cells i (set (get_or cells i []) j x)) k []) l d ≡ get_or (get_or cells k []) l d
set-elsewhere cells i j k l x d in_rows other (inl same_row) =
    rw same_row
    (ap (λ r. get_or r l d) (get_or-set_same cells i (set (get_or cells i []) j x) [] in_rows) ∙ get_or-set_other (get_or cells i []) j l x d
    (other same_row))
set-elsewhere cells i j k l x d in_rows other (inr other_row) =
    ap (λ r. get_or r l d) (get_or-set_other cells i k (set (get_or cells i []) j x) [] other_row)

-- what follows is of states and events of which each stands in a list at its place
pub record TableOf {S E : Type 0} (states : List S) (events : List E) (row : S → ℕ) (column : E → ℕ) : Type 0 where
  pub states_stand : (s : S) → slice_get states (row s) ≡ Some s
  pub events_stand : (e : E) → slice_get events (column e) ≡ Some e

-- a state has a row
has-row : {S A : Type 0} (states : List S) (columns : ℕ) (row : S → ℕ) → ((s : S) → slice_get states (row s) ≡ Some s) →
    (cells : Cells S A) (state : S) → HasSize (length states) columns cells → row state < length cells
has-row states columns row stands cells state whole =
    omega (arith, whole.rows_are, slice_get_within states (row state) state (stands state))

-- an event has a cell in each row
has-cell : {S E A : Type 0} (states : List S) (events : List E) (row : S → ℕ) (column : E → ℕ) → TableOf states events row column →
    (cells : Cells S A) (state : S) (event : E) → HasSize (length states) (length events) cells → column event < length (get_or cells (row state) [])
has-cell states events row column listed cells state event whole =
    omega (
      arith,
      whole.columns_are (row state) [] (has-row states (length events) row listed.states_stand cells state whole),
      slice_get_within events (column event) event (listed.events_stand event),
    )

-- the cell replaced holds the entry
pub replaced-here : {S E A : Type 0} (states : List S) (events : List E) (row : S → ℕ) (column : E → ℕ) → TableOf states events row column →
    (cells : Cells S A) (state : S) (event : E) (entry : CellEntry S A) → HasSize (length states) (length events) cells →
    cell_of row column (replaced row column cells state event entry) state event ≡ entry
replaced-here states events row column listed cells state event entry whole =
    set-here cells (row state) (column event) (row state) (column event) entry Blank
    (has-row states (length events) row listed.states_stand cells state whole)
    (has-cell states events row column listed cells state event whole) refl refl

-- with another entry in a cell there are as many rows and columns
pub HasSize-replaced : {S E A : Type 0} (states : List S) (columns : ℕ) (row : S → ℕ) (column : E → ℕ) →
    ((s : S) → slice_get states (row s) ≡ Some s) → (cells : Cells S A) (state : S) (event : E) (entry : CellEntry S A) →
    HasSize (length states) columns cells → HasSize (length states) columns (replaced row column cells state event entry)
HasSize-replaced states columns row column stands cells state event entry whole =
    HasSize-set (length states) columns cells (row state) (column event) entry whole (slice_get_within states (row state) state (stands state))

-- each cell but the one replaced is as it was
pub replaced-other : {S E A : Type 0} (states : List S) (events : List E) (row : S → ℕ) (column : E → ℕ) → TableOf states events row column →
    (cells : Cells S A) (state : S) (event : E) (entry : CellEntry S A) (s : S) (e : E) → HasSize (length states) (length events) cells →
    ¬ ((s ≡ state) × (e ≡ event)) → cell_of row column (replaced row column cells state event entry) s e ≡ cell_of row column cells s e
replaced-other states events row column listed cells state event entry s e whole other =
    set-elsewhere cells (row state) (column event) (row s) (column e) entry Blank
    (has-row states (length events) row listed.states_stand cells state whole)
    (λ same_row same_column.
    other (same-place states row listed.states_stand s state same_row, same-place events column listed.events_stand e event same_column))
    (cases_eq (row s) (row state))

-- what a change gives is in its cell, by whether it is of the state and whether it is of the event
after-change : {S E A : Type 0} (states : List S) (events : List E) (row : S → ℕ) (column : E → ℕ) → TableOf states events row column →
    (cells : Cells S A) (change : Change S E A) (state : S) (event : E) → HasSize (length states) (length events) cells →
    (((row change.state == row state) ≡ true) × (row change.state ≡ row state))
    ⊎ (((row change.state == row state) ≡ false) × (row change.state ≢ row state)) →
    (((column change.event == column event) ≡ true) × (column change.event ≡ column event))
    ⊎ (((column change.event == column event) ≡ false) × (column change.event ≢ column event)) →
    cell_of row column (replaced row column cells change.state change.event change.entry) state event
    ≡ unwrap_or (entry_given row column change state event) (cell_of row column cells state event)
after-change states events row column listed cells change state event whole (inl (state_test, same_row)) (inl (event_test, same_column)) =
    rw (state_test, event_test)
    (set-here cells (row change.state) (column change.event) (row state) (column event) change.entry Blank
    (has-row states (length events) row listed.states_stand cells change.state whole)
    (has-cell states events row column listed cells change.state change.event whole) (sym same_row) (sym same_column))
after-change states events row column listed cells change state event whole (inl (state_test, same_row)) (inr (event_test, other_column)) =
    rw (state_test, event_test)
    (set-elsewhere cells (row change.state) (column change.event) (row state) (column event) change.entry Blank
    (has-row states (length events) row listed.states_stand cells change.state whole)
    (λ _ same_column. other_column (sym same_column)) (inl (sym same_row)))
after-change states events row column listed cells change state event whole (inr (state_test, other_row)) _ =
    rw state_test
    (set-elsewhere cells (row change.state) (column change.event) (row state) (column event) change.entry Blank
    (has-row states (length events) row listed.states_stand cells change.state whole)
    (λ same_row _. other_row (sym same_row)) (inr (λ same_row. other_row (sym same_row))))

-- a default of a default
unwrap_or-option_or : {X : Type 0} (first second : Option X) (d : X) → unwrap_or (option_or first second) d ≡ unwrap_or first (unwrap_or second d)
unwrap_or-option_or None second d = refl
unwrap_or-option_or (Some entry) second d = refl

-- the changes are made in order, and the last of a cell is the one that it holds
pub cell-after_changes : {S E A : Type 0} (states : List S) (events : List E) (row : S → ℕ) (column : E → ℕ) → TableOf states events row column →
    (cells : Cells S A) (changes : List (Change S E A)) (state : S) (event : E) → HasSize (length states) (length events) cells →
    cell_of row column (after_changes row column changes cells) state event
    ≡ unwrap_or (last_entry row column changes state event) (cell_of row column cells state event)
cell-after_changes states events row column listed cells [] state event whole = refl
cell-after_changes {S} {E} {A} states events row column listed cells (change ∷ later) state event whole =
    let changed : Cells S A = replaced row column cells change.state change.event change.entry in
    cell-after_changes states events row column listed changed later state event
    (HasSize-set (length states) (length events) cells (row change.state) (column change.event) change.entry whole
    (slice_get_within states (row change.state) change.state (listed.states_stand change.state)))
    ∙ ap (λ d. unwrap_or (last_entry row column later state event) d)
    (after-change states events row column listed cells change state event whole (eqb_tells (row change.state) (row state))
    (eqb_tells (column change.event) (column event)))
    ∙ sym (unwrap_or-option_or (last_entry row column later state event) (entry_given row column change state event) (cell_of row column cells state event))
