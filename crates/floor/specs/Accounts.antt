-- What is told at the end of what was done at a floor.
use Rattle.std.specs.Prelude.{◌≡◌, List, None}
use Rattle.machine.specs.Restraint.{AreRestrained}
use Rattle.record.specs.View.{IsLegal}
use Rattle.floor.specs.declared.closing.Closed.{Closed}
use Rattle.floor.specs.Closing.{AllReceived, AllStand, AllThere, AreHistories, HaveOwners}
use Rattle.floor.specs.FloorId.{FloorId}
use Rattle.floor.specs.Turning.{SeatView, IsFirstOf, recorded_at}

-- what was done at a floor, at which these seats were: its setup's recording, which is legal, the owner of each entry, and the first violation
pub record IsAccount {a : _} (floor : FloorId) (row : List SeatView) (closed : Closed a) : Type 0 where
  pub setup : closed.recording ≡ recorded_at floor closed.recording.entries closed.owners.items
  pub legal : IsLegal closed.recording
  pub owners : HaveOwners floor closed.recording.entries closed.owners.items
  pub histories : AreHistories closed.recording.entries closed.owners.items row
  pub violation : IsFirstOf floor.setup closed.recording.entries closed.violation
  pub clean : AreRestrained floor.setup.tables → closed.violation ≡ None
  pub seats : closed.seats.items ≡ row

-- what was done at a floor, of which all seats are there: so each entry has one receipt, and each receipt an entry
pub record IsWholeAccount {a : _} (floor : FloorId) (row : List SeatView) (closed : Closed a) : Type 0 where
  pub there : AllThere floor.seats row
  pub told : IsAccount floor row closed
  pub stand : AllStand closed.recording.entries row
  pub received : AllReceived closed.recording.entries row
