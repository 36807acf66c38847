-- What a call of a hall makes of the hall and of the seat that it is for.
use Rattle.std.specs.Prelude.{◌≡◌, ◌<◌, ℕ, List, [], ◌∷◌, ◌++◌, Option, Some, None, true, length}
use Rattle.base.specs.declared.step.Step.{Step}
use Rattle.machine.specs.Machine.{next}
use Rattle.record_lines.specs.declared.entry.Entry.{Entry}
use Rattle.floor.specs.declared.halls.TurnFault.{TurnFault}
use Rattle.floor.specs.FloorId.{FloorId}
use Rattle.floor.specs.Turning.{HallView, SeatView, Draws, IsFirstOf, is_its, its_ready, state_of, with_receipt}
use Rattle.floor.specs.SeatCalling.{IsMoment, IsTurnRefused}

-- neither the hall nor the seat has changed, which found a moment
pub record LeavesBoth (floor : FloorId) (old new : HallView) (seat left : SeatView) : Type 0 where
  pub moment : IsMoment floor seat old.entries old.owners
  pub hall_stays : new ≡ old
  pub seat_stays : left ≡ seat

-- a turn: the step is the seat's, and there is room for its entry. The machine's next step is one entry more, which the seat owns and has a
-- receipt of
pub record Turns (floor : FloorId) (old new : HallView) (seat turned : SeatView) (step : Step) (receipt : ℕ × Entry) : Type 0 where
  pub moment : IsMoment floor seat old.entries old.owners
  pub own : is_its floor old.entries seat.number step ≡ true
  pub room : length old.entries < floor.capacity
  pub number : receipt.0 ≡ length old.entries
  pub entry : receipt.1 ≡ record { step = step; outcome = (next floor.setup.tables (state_of floor.setup old.entries) step).outcome }
  pub entries : new.entries ≡ old.entries ++ receipt.1 ∷ []
  pub owners : new.owners ≡ old.owners ++ seat.number ∷ []
  pub violation : IsFirstOf floor.setup new.entries new.violation
  pub added : turned ≡ with_receipt seat receipt

-- a turn by this step is refused for this, and changes nothing
pub record Refuses (floor : FloorId) (old new : HallView) (seat left : SeatView) (step : Step) (fault : TurnFault) : Type 0 where
  pub leaves : LeavesBoth floor old new seat left
  pub reason : IsTurnRefused floor old.entries (is_its floor old.entries seat.number step) fault

-- nothing is ready for the seat, though there is room: no turn is made
pub record FindsNothingReady (floor : FloorId) (old new : HallView) (seat left : SeatView) : Type 0 where
  pub leaves : LeavesBoth floor old new seat left
  pub room : length old.entries < floor.capacity
  pub none : its_ready floor old.entries seat.number ≡ []

-- what comes of a draw: the turn by the step that the word draws among those that are ready for the seat, if there are any
abbrev pub TurnsAny : FloorId → HallView → HallView → SeatView → SeatView → ℕ → Option (ℕ × Entry) → Type 0
TurnsAny floor old new seat turned word None = FindsNothingReady floor old new seat turned
TurnsAny floor old new seat turned word (Some receipt) =
    (step : Step) × Draws floor old.entries seat.number word step × Turns floor old new seat turned step receipt

-- a draw is refused for this, whatever is ready, and changes nothing
pub record RefusesDraw (floor : FloorId) (old new : HallView) (seat left : SeatView) (fault : TurnFault) : Type 0 where
  pub leaves : LeavesBoth floor old new seat left
  pub reason : IsTurnRefused floor old.entries true fault
