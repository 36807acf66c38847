-- The cells of a controller's table: a row for each state, with a cell for each event.
use Rattle.std.specs.Prelude.{◌≡◌, ℕ, All, Bool, ◌==◌, ◌&&◌, if◌then◌else◌, Option, Some, None, List, [], ◌∷◌, length, slice_index_or, slice_set, unwrap_or}
use Rattle.std.specs.Option.{option_or}
use Rattle.base.specs.declared.controller.entry.CellEntry.{CellEntry}
use Rattle.base.specs.declared.controller.entry.CellEntry.TheVariants.{Blank}
use Rattle.base.specs.declared.controller.entry.Change.{Change}

-- the rows of a table's cells
abbrev pub Cells : Type 0 → Type 0 → Type 0
Cells S A = List (List (CellEntry S A))

-- the entry in the cell of a state and an event, where each state has the number of a row and each event that of a column
abbrev pub cell_of : {S E A : Type 0} → (S → ℕ) → (E → ℕ) → Cells S A → S → E → CellEntry S A
cell_of row column cells state event = slice_index_or (slice_index_or cells (row state) []) (column event) Blank

-- these cells with another entry in the cell of a state and an event
abbrev pub replaced : {S E A : Type 0} → (S → ℕ) → (E → ℕ) → Cells S A → S → E → CellEntry S A → Cells S A
replaced row column cells state event entry =
    slice_set cells (row state) (slice_set (slice_index_or cells (row state) []) (column event) entry)

-- there are so many rows, each with so many cells
pub record HasSize {S A : Type 0} (rows columns : ℕ) (cells : Cells S A) : Type 0 where
  pub rows_are : length cells ≡ rows
  pub columns_are : All (λ row. length row ≡ columns) cells

-- these cells after these changes, made in order
abbrev pub after_changes : {S E A : Type 0} → (S → ℕ) → (E → ℕ) → List (Change S E A) → Cells S A → Cells S A
after_changes row column [] cells = cells
after_changes row column (change ∷ later) cells =
    after_changes row column later (replaced row column cells change.state change.event change.entry)

-- whether a change is of the cell of this state and this event
abbrev pub is_of : {S E A : Type 0} → (S → ℕ) → (E → ℕ) → Change S E A → S → E → Bool
is_of row column change state event = (row change.state == row state) && (column change.event == column event)

-- the entry that a change gives the cell of this state and this event, if it is of that cell
abbrev pub entry_given : {S E A : Type 0} → (S → ℕ) → (E → ℕ) → Change S E A → S → E → Option (CellEntry S A)
entry_given row column change state event = if is_of row column change state event then Some change.entry else None

-- the entry that the last change of this state and this event gives, if there is such a change
abbrev pub last_entry : {S E A : Type 0} → (S → ℕ) → (E → ℕ) → List (Change S E A) → S → E → Option (CellEntry S A)
last_entry row column [] state event = None
last_entry row column (change ∷ later) state event =
    option_or (last_entry row column later state event) (entry_given row column change state event)

-- where changes are made to a table of these states and events in order, each cell holds the entry of its last change, or its own if there is none
abbrev pub LastChangeHolds : {S E : Type 0} → Type 0 → List S → List E → (S → ℕ) → (E → ℕ) → Type 0
LastChangeHolds {S} {E} A states events row column =
    (cells : Cells S A) (changes : List (Change S E A)) (state : S) (event : E) → HasSize (length states) (length events) cells →
    cell_of row column (after_changes row column changes cells) state event
    ≡ unwrap_or (last_entry row column changes state event) (cell_of row column cells state event)
