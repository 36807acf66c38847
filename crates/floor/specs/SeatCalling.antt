-- What a call at a floor tells of the moment at which it was made.
use Rattle.std.specs.Prelude.{◌≡◌, ◌<◌, ◌≤◌, ℕ, List, [], Option, Some, None, Bool, false, true, length}
use Rattle.base.specs.declared.step.Step.{Step}
use Rattle.record_lines.specs.declared.entry.Entry.{Entry}
use Rattle.record.specs.View.{IsLegal}
use Rattle.floor.specs.declared.halls.TurnFault.{TurnFault}
use Rattle.floor.specs.declared.halls.TurnFault.TheVariants.{NotYours, Full, NoMemory}
use Rattle.floor.specs.FloorId.{FloorId}
use Rattle.floor.specs.Turning.{SeatView, Draws, Follows, is_its, its_ready, recorded, with_receipt}
use Rattle.floor.specs.Histories.{history}
use Rattle.floor.specs.Closing.{HaveOwners}

-- a moment at a floor, as a seat finds it: the entries before are legal and have owners, and the seat has made those that it owns
pub record IsMoment (floor : FloorId) (seat : SeatView) (before : List Entry) (owners : List ℕ) : Type 0 where
  pub within : length before ≤ floor.capacity
  pub legal : IsLegal (recorded floor.setup before)
  pub owned : HaveOwners floor before owners
  pub made : seat.made ≡ history seat.number before owners

-- why a turn is refused behind these entries: its step isn't the seat's; else there are as many entries as the floor takes; else for memory
abbrev pub IsTurnRefused : FloorId → List Entry → Bool → TurnFault → Type 0
IsTurnRefused floor before own NotYours = own ≡ false
IsTurnRefused floor before own Full = (own ≡ true) × (length before ≡ floor.capacity)
IsTurnRefused floor before own NoMemory = (own ≡ true) × (length before < floor.capacity)

-- a turn by this step was refused for this at a moment, and the seat is as it was
pub record WasRefused (floor : FloorId) (old new : SeatView) (step : Step) (fault : TurnFault) : Type 0 where
  pub stays : new ≡ old
  pub before : List Entry
  pub owners : List ℕ
  pub moment : IsMoment floor old before owners
  pub reason : IsTurnRefused floor before (is_its floor before old.number step) fault

-- a draw was refused for this at a moment, and the seat is as it was
pub record WasDrawRefused (floor : FloorId) (old new : SeatView) (fault : TurnFault) : Type 0 where
  pub stays : new ≡ old
  pub before : List Entry
  pub owners : List ℕ
  pub moment : IsMoment floor old before owners
  pub reason : IsTurnRefused floor before true fault

-- nothing was ready for a seat, at a moment
abbrev pub HadNone : FloorId → SeatView → Type 0
HadNone floor seat = (before : List Entry) × (owners : List ℕ) × IsMoment floor seat before owners × (its_ready floor before seat.number ≡ [])

-- a receipt is of a step that belonged to a seat at the moment at which it was made
abbrev pub WasIts : FloorId → SeatView → ℕ × Entry → Type 0
WasIts floor seat receipt =
    (before : List Entry) × (owners : List ℕ) × IsMoment floor seat before owners × Follows floor before receipt
    × (is_its floor before seat.number receipt.1.step ≡ true)

-- a receipt is of the step that a word drew among those that were ready for a seat at the moment at which it was made
abbrev pub WasDrawn : FloorId → SeatView → ℕ → ℕ × Entry → Type 0
WasDrawn floor seat word receipt =
    (before : List Entry) × (owners : List ℕ) × IsMoment floor seat before owners × Follows floor before receipt
    × Draws floor before seat.number word receipt.1.step

-- a seat has one receipt more: of this step, which was its own
pub record Receives (floor : FloorId) (old new : SeatView) (step : Step) (receipt : ℕ × Entry) : Type 0 where
  pub step_is : receipt.1.step ≡ step
  pub its : WasIts floor old receipt
  pub added : new ≡ with_receipt old receipt

-- what a draw brought a seat: the receipt of what the word drew, or none where nothing was ready
abbrev pub ReceivesAny : FloorId → SeatView → SeatView → ℕ → Option (ℕ × Entry) → Type 0
ReceivesAny floor old new word None = HadNone floor old × (new ≡ old)
ReceivesAny floor old new word (Some receipt) = WasDrawn floor old word receipt × (new ≡ with_receipt old receipt)
