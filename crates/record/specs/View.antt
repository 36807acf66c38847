-- What a recording is, and when it is legal.
use Rattle.std.specs.Prelude.{◌≡◌, ◌≢◌, ◌<◌, ◌≤◌, ℕ, List, [], ◌∷◌, ◌++◌, All, Option, Some, None, length, map}
use Rattle.base.specs.Extent.{Extent, IsWithinLimits}
use Rattle.base.specs.declared.step.Step.{Step}
use Rattle.base.specs.declared.step.Outcome.{Outcome}
use Rattle.tables.specs.Tables.{Tables}
use Rattle.machine.specs.Machine.{after, opened}
use Rattle.record_lines.specs.declared.entry.Entry.{Entry}

-- a world's shape, tables and opening values, and the entries of its steps; and a number of seats, with the seat that owns each entry
pub record RecordingView : Type 0 where
  pub seats : ℕ
  pub shape : Extent
  pub tables : Tables
  pub opening : List ℕ
  pub entries : List Entry
  pub owners : List ℕ

-- there are at most 64 seats; where there is none nobody owns an entry, and else each entry has one owner among the seats
pub record AreOwners (seats : ℕ) (owners : List ℕ) (entries : List Entry) : Type 0 where
  pub few : seats ≤ 64
  pub none : seats ≡ 0 → owners ≡ []
  pub each : seats ≢ 0 → length owners ≡ length entries
  pub within : All (λ seat. seat < seats) owners

-- a shape within the limits, one opening value for each block, and at most a million entries
pub record IsRecordKept (r : RecordingView) : Type 0 where
  pub within : IsWithinLimits r.shape
  pub each : length r.opening ≡ r.shape.blocks
  pub few : length r.entries ≤ 1000000
  pub owners : AreOwners r.seats r.owners r.entries

-- a recording of so many seats with no entries
abbrev pub opened_of : ℕ → Extent → Tables → List ℕ → RecordingView
opened_of seats shape tables opening =
    record { seats = seats; shape = shape; tables = tables; opening = opening; entries = []; owners = [] }

-- a recording without seats, with no entries
abbrev pub opened_recording : Extent → Tables → List ℕ → RecordingView
opened_recording shape tables opening = opened_of 0 shape tables opening

-- the list of the owner, if there is one
abbrev pub owner_list : Option ℕ → List ℕ
owner_list None = []
owner_list (Some seat) = seat ∷ []

-- a recording with one more entry, which has this owner
abbrev pub with_owned : RecordingView → Entry → Option ℕ → RecordingView
with_owned r entry owner = record {
  seats = r.seats;
  shape = r.shape;
  tables = r.tables;
  opening = r.opening;
  entries = r.entries ++ entry ∷ [];
  owners = r.owners ++ owner_list owner;
}

-- a recording with one more entry, of nobody
abbrev pub with_entry : RecordingView → Entry → RecordingView
with_entry r entry = record {
  seats = r.seats;
  shape = r.shape;
  tables = r.tables;
  opening = r.opening;
  entries = r.entries ++ entry ∷ [];
  owners = r.owners;
}

-- the steps of a recording
abbrev pub steps_of : RecordingView → List Step
steps_of r = map (λ e. e.step) r.entries

-- the outcomes that a recording tells
abbrev pub told_by : RecordingView → List Outcome
told_by r = map (λ e. e.outcome) r.entries

-- the outcomes that the steps of a recording really have
abbrev pub found_by : RecordingView → List Outcome
found_by r = (after r.tables (opened r.shape r.opening) (steps_of r)).outcomes

-- a recording tells the outcomes that its steps have
abbrev pub IsLegal : RecordingView → Type 0
IsLegal r = told_by r ≡ found_by r
