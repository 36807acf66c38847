-- What the lock keeps, and what a seat keeps.
use Rattle.std.specs.Prelude.{◌≡◌, ◌<◌, ◌≤◌, ℕ, List, [], Option, Some, length, Vec, vec_len, vec_capacity}
use Rattle.atomic_table.specs.Table.{Me}
use Rattle.atomic_table.specs.Seated.{TableId}
use Rattle.base.specs.declared.step.Step.{Step}
use Rattle.machine.specs.declared.made.Made.{Made}
use Rattle.machine.specs.Made.{IsTold}
use Rattle.monitor.specs.declared.violation.Violation.{Violation}
use Rattle.monitor.specs.Watching.{HasSeen}
use Rattle.record_lines.specs.declared.entry.Entry.{Entry}
use Rattle.record.specs.View.{RecordingView, IsLegal, opened_of, steps_of, with_owned}
use Rattle.world.specs.View.{View}
use Rattle.world.specs.inner.Counts.{Rows}
use Rattle.trials.specs.Making.{StartsUnder}
use Rattle.trials.specs.Terms.{Terms}
use Rattle.floor.specs.declared.tokens.TokenView.{TokenView}
use Rattle.floor.specs.FloorId.{FloorId}
use Rattle.floor.specs.Turning.{recorded, recorded_at, state_of, IsFirstOf}
use Rattle.floor.specs.Closing.{HaveOwners}
use Rattle.floor.specs.inner.Sharing.{AreShared}
use Rattle.floor.specs.inner.Tokens.{keeper, sitting}

-- a world, a watch, owners and a violation are those of a recording of these entries, which is legal
pub record IsKeptUp (floor : FloorId) (world : View) (watch : List ℕ) (recording : RecordingView) (owners : List ℕ)
    (violation : Option (ℕ × Violation)) : Type 0 where
  pub recorded_is : recording ≡ recorded_at floor recording.entries owners
  pub legal : IsLegal (recorded floor.setup recording.entries)
  pub shape : world.shape ≡ floor.setup.shape
  pub tables : world.tables ≡ floor.setup.tables
  pub state : world.state ≡ state_of floor.setup recording.entries
  pub seen : HasSeen world floor.setup.opening (steps_of (recorded floor.setup recording.entries)) watch
  pub first : IsFirstOf floor.setup recording.entries violation
  pub owned : HaveOwners floor recording.entries owners

-- a hall has the seats and the capacity of its floor, the counts of what is ready for each seat, and the token that keeps the recording
pub record IsHall (floor : FloorId) (world : View) (entries : List Entry) (owners : List ℕ) (shares : List Rows) (capacity seats : ℕ)
    (table token : TableId) (me : Me Entry TokenView) : Type 0 where
  pub capacity_is : capacity ≡ floor.capacity
  pub seats_is : seats ≡ floor.seats
  pub some : 0 < floor.seats
  pub few : floor.seats ≤ 64
  pub shared : AreShared floor.seats world shares
  pub within : length entries ≤ floor.capacity
  pub table_is : table ≡ floor.ground
  pub one : floor.ground.words ≡ 1
  pub token_is : token ≡ floor.ground
  pub keeps : me ≡ (keeper entries owners floor.seats, [])

-- a seat has a number of its floor, and the token that has its receipts
pub record IsFloorSeat (floor : FloorId) (number : ℕ) (made : List (ℕ × Entry)) (token : TableId) (me : Me Entry TokenView) : Type 0 where
  pub within : number < floor.seats
  pub token_is : token ≡ floor.ground
  pub sits : me ≡ (sitting number made, [])

-- a recording of so many seats under a setup, without entries
abbrev pub OpensUnder : ℕ → Terms → RecordingView → Type 0
OpensUnder seats setup recording = recording ≡ opened_of seats setup.shape setup.tables setup.opening

-- what a hall of so many seats begins with: a world before its first step, a watch that has seen none, and a recording without entries
pub record AreParts (seats : ℕ) (setup : Terms) (world : View) (watch : List ℕ) (recording : RecordingView) : Type 0 where
  pub starts : StartsUnder setup world
  pub seen : (w : View) → HasSeen w setup.opening [] watch
  pub opens : OpensUnder seats setup recording

-- a vector takes one more without asking for memory
abbrev pub HasRoomForOne : {T A : Type 0} → Vec T A → Type 0
HasRoomForOne v = vec_len v < vec_capacity v

-- a world is as it was, but for its room
pub record IsSame (old new : View) : Type 0 where
  pub shape : new.shape ≡ old.shape
  pub tables : new.tables ≡ old.tables
  pub state : new.state ≡ old.state

-- a world has made a step, which came to this, and a recording has one more entry of it, which a seat owns
pub record Advances (old new : View) (before after : RecordingView) (seat : ℕ) (step : Step) (made : Made) : Type 0 where
  pub told : IsTold old.tables old.state step made new.state
  pub shape : new.shape ≡ old.shape
  pub tables : new.tables ≡ old.tables
  pub recorded : after ≡ with_owned before (record { step = step; outcome = made.outcome }) (Some seat)
