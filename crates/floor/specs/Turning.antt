-- What a hall and a seat are to a contract, and what is so behind some entries.
use Rattle.std.specs.Prelude.{◌≡◌, ◌%◌, ℕ, List, [], ◌∷◌, ◌++◌, Option, Some, Bool, length, slice_get}
use Rattle.base.specs.declared.step.Step.{Step}
use Rattle.machine.specs.Machine.{State, next, opened, state_after}
use Rattle.monitor.specs.declared.violation.Violation.{Violation}
use Rattle.monitor.specs.Violations.{AnswersFirst}
use Rattle.record_lines.specs.declared.entry.Entry.{Entry}
use Rattle.record.specs.View.{RecordingView, steps_of}
use Rattle.trials.specs.Terms.{Terms}
use Rattle.floor.specs.Belonging.{belongs, ready_for}
use Rattle.floor.specs.FloorId.{FloorId}

-- a hall: the entries, the owner of each, and the first violation with the number of its entry
pub record HallView : Type 0 where
  pub entries : List Entry
  pub owners : List ℕ
  pub violation : Option (ℕ × Violation)

-- a seat: its number, and its receipts, each the number of an entry and the entry
pub record SeatView : Type 0 where
  pub number : ℕ
  pub made : List (ℕ × Entry)

-- a seat without receipts
abbrev pub new_seat : ℕ → SeatView
new_seat number = record { number = number; made = [] }

-- a seat with one more receipt
abbrev pub with_receipt : SeatView → ℕ × Entry → SeatView
with_receipt seat receipt = record { number = seat.number; made = seat.made ++ receipt ∷ [] }

-- the recording of entries that were made under a setup, of which nobody is told to own any
abbrev pub recorded : Terms → List Entry → RecordingView
recorded setup entries =
    record { seats = 0; shape = setup.shape; tables = setup.tables; opening = setup.opening; entries = entries; owners = [] }

-- the recording of entries that were made at a floor, each with the seat that owns it
abbrev pub recorded_at : FloorId → List Entry → List ℕ → RecordingView
recorded_at floor entries owners = record {
  seats = floor.seats;
  shape = floor.setup.shape;
  tables = floor.setup.tables;
  opening = floor.setup.opening;
  entries = entries;
  owners = owners;
}

-- the state that a setup's world is in after these entries
abbrev pub state_of : Terms → List Entry → State
state_of setup entries = state_after setup.tables (opened setup.shape setup.opening) (steps_of (recorded setup entries))

-- an answer is exactly the first violation of entries that were made under a setup
abbrev pub IsFirstOf : Terms → List Entry → Option (ℕ × Violation) → Type 0
IsFirstOf setup entries found = AnswersFirst setup.shape setup.tables setup.opening (steps_of (recorded setup entries)) found

-- whether a step belongs to a seat of a floor, after these entries
abbrev pub is_its : FloorId → List Entry → ℕ → Step → Bool
is_its floor entries seat step = belongs floor.seats floor.setup.shape.caches (state_of floor.setup entries) seat step

-- the deliveries that are enabled and belong to a seat of a floor, after these entries
abbrev pub its_ready : FloorId → List Entry → ℕ → List Step
its_ready floor entries seat = ready_for floor.seats floor.setup.shape.caches floor.setup.tables (state_of floor.setup entries) seat

-- a word draws this step among those that are ready for a seat
abbrev pub Draws : FloorId → List Entry → ℕ → ℕ → Step → Type 0
Draws floor entries seat word step = slice_get (its_ready floor entries seat) (word % length (its_ready floor entries seat)) ≡ Some step

-- a receipt's entry stands behind these: its step was made in the state that they led to
pub record Follows (floor : FloorId) (before : List Entry) (receipt : ℕ × Entry) : Type 0 where
  pub number : receipt.0 ≡ length before
  pub outcome : receipt.1.outcome ≡ (next floor.setup.tables (state_of floor.setup before) receipt.1.step).outcome
