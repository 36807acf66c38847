-- What a closed floor's entries, owners and seats are to one another.
use Rattle.std.specs.Prelude.{◌≡◌, ◌≢◌, ◌<◌, ℕ, List, Some, true, All, length, slice_get, take}
use Rattle.record_lines.specs.declared.entry.Entry.{Entry}
use Rattle.floor.specs.FloorId.{FloorId}
use Rattle.floor.specs.Turning.{SeatView, is_its}
use Rattle.floor.specs.Histories.{history}

-- the step of an entry belonged to its owner, a seat of the floor, where it stood
abbrev pub Belonged : FloorId → List Entry → ℕ → Entry → ℕ → Type 0
Belonged floor entries number entry owner = (owner < floor.seats) × (is_its floor (take number entries) owner entry.step ≡ true)

-- each entry has an owner, to whom its step belonged where it stood
pub record HaveOwners (floor : FloorId) (entries : List Entry) (owners : List ℕ) : Type 0 where
  pub each : length owners ≡ length entries
  pub belonged : (number : ℕ) (entry : Entry) (owner : ℕ) → slice_get entries number ≡ Some entry → slice_get owners number ≡ Some owner →
      Belonged floor entries number entry owner

-- the seat of this number is in the row
abbrev pub IsThere : List SeatView → ℕ → Type 0
IsThere row number = (place : ℕ) × (seat : SeatView) × (slice_get row place ≡ Some seat) × (seat.number ≡ number)

-- the seats of all numbers below this one are in the row
abbrev pub AllThere : ℕ → List SeatView → Type 0
AllThere seats row = (number : ℕ) → number < seats → IsThere row number

-- a seat of a number below this one isn't in the row
abbrev pub IsMissing : ℕ → List SeatView → Type 0
IsMissing seats row = (number : ℕ) × (number < seats) × All (λ seat. seat.number ≢ number) row

-- the receipts of each seat are its history
abbrev pub AreHistories : List Entry → List ℕ → List SeatView → Type 0
AreHistories entries owners row = All (λ seat. seat.made ≡ history seat.number entries owners) row

-- a seat of the row has a receipt of this entry with this number
abbrev pub HasReceiptOf : List SeatView → ℕ → Entry → Type 0
HasReceiptOf row number entry =
    (place : ℕ) × (seat : SeatView) × (slice_get row place ≡ Some seat) × (at : ℕ) × (slice_get seat.made at ≡ Some (number, entry))

-- each receipt of the row is of an entry that stands at its number
abbrev pub AllStand : List Entry → List SeatView → Type 0
AllStand entries row = (number : ℕ) (entry : Entry) → HasReceiptOf row number entry → slice_get entries number ≡ Some entry

-- there is a receipt of each entry in the row
abbrev pub AllReceived : List Entry → List SeatView → Type 0
AllReceived entries row = (number : ℕ) (entry : Entry) → slice_get entries number ≡ Some entry → HasReceiptOf row number entry
