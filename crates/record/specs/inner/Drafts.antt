-- What has been read of a recording, line by line. Only private clauses cite this file.
use Rattle.std.specs.Prelude.{◌≡◌, ℕ, ◌+◌, ◌<◌, ◌≤◌, List, [], ◌∷◌, ◌++◌, All, Option, Some, None, length, map}
use Rattle.std.specs.Vec.{vec_capacity}
use Rattle.base.specs.Extent.{Extent, IsWithinLimits}
use Rattle.base.specs.declared.controller.protocol.Protocol.TheVariants.{Msi}
use Rattle.tables.specs.CellPlaces.{place_number}
use Rattle.tables.specs.Tables.{Tables, baseline_of}
use Rattle.tables.specs.declared.cell_places.CellPlace.{CellPlace}
use Rattle.record.specs.declared.draft.Draft.{Draft}
use Rattle.record_lines.specs.declared.due.Due.{Due}
use Rattle.record_lines.specs.declared.due.TextHead.{TextHead}
use Rattle.record_lines.specs.declared.entry.Entry.{Entry}
use Rattle.record_lines.specs.declared.version.Version.{Version}
use Rattle.record_lines.specs.declared.version.Version.TheVariants.{Two}
use Rattle.record_lines.specs.Versions.{protocol_lines, seats_lines, CanTell, IsShapeIn}
use Rattle.record_lines.specs.declared.due.Due.TheVariants.{Header, ProtocolLine, ShapeLine, SeatsLine, OpeningLine, CellCount, CellLine, EntryCount}
use Rattle.record_lines.specs.declared.due.Due.TheVariants.{EntryLine, EndLine, Nothing}
use Rattle.record_lines.specs.Cells.{cell_at, cell_words}
use Rattle.record_lines.specs.Grammar.{AreValues, FitsEntry, Leads}
use Rattle.record.specs.View.{AreOwners, RecordingView}
use Rattle.record.specs.Recordable.{AreWhole}
use Rattle.record.specs.Text.{lines, head_lines, changed_cells, told}
use Rattle.record_lines.specs.Text.{header_words, shape_words, cells_words, entries_words, told_words}

-- a recording as far as it was read, and the version of its text
pub record Kept : Type 0 where
  pub version : Version
  pub seats : ℕ
  pub shape : Extent
  pub tables : Tables
  pub opening : List ℕ
  pub entries : List Entry
  pub owners : List ℕ

-- the recording
abbrev pub recorded : Kept → RecordingView
recorded r = record {
  seats = r.seats;
  shape = r.shape;
  tables = r.tables;
  opening = r.opening;
  entries = r.entries;
  owners = r.owners;
}

-- what a draft keeps, where no entry was read
abbrev pub kept : Draft → Kept
kept draft = record {
  version = draft.version;
  seats = draft.seats;
  shape = draft.shape;
  tables = draft.tables;
  opening = draft.opening.items;
  entries = [];
  owners = [];
}

-- a recording with these entries, and these owners
abbrev pub with_told : Kept → List Entry → List ℕ → Kept
with_told r entries owners = record {
  version = r.version;
  seats = r.seats;
  shape = r.shape;
  tables = r.tables;
  opening = r.opening;
  entries = entries;
  owners = owners;
}

-- the lines up to the cells that were read, of so many
abbrev pub lines_to_cells : Kept → ℕ → List (List (List ℕ))
lines_to_cells r count = head_lines r.version (recorded r) ++ cells_words count ∷ map cell_words (changed_cells r.tables)

-- the lines up to the entries that were read, of so many
abbrev pub lines_to_entries : Kept → ℕ → List (List (List ℕ))
lines_to_entries r count =
    lines_to_cells r (length (changed_cells r.tables)) ++ entries_words count ∷ map told_words (told r.owners r.entries)

-- the lines before the one that is due
abbrev pub lines_before : Due → Kept → List (List (List ℕ))
lines_before Header r = []
lines_before ProtocolLine r = header_words Two ∷ []
lines_before (ShapeLine f) r = header_words r.version ∷ protocol_lines r.version r.tables.protocol
lines_before (SeatsLine f shape) r = header_words r.version ∷ protocol_lines r.version r.tables.protocol ++ shape_words shape ∷ []
lines_before (OpeningLine f shape) r = header_words r.version ∷ protocol_lines r.version r.tables.protocol ++
    (shape_words shape ∷ seats_lines r.version r.seats)
lines_before (CellCount f) r = head_lines r.version (recorded r)
lines_before (CellLine f left from) r = lines_to_cells r (length (changed_cells r.tables) + left)
lines_before (EntryCount f) r = lines_to_cells r (length (changed_cells r.tables))
lines_before (EntryLine f left) r = lines_to_entries r (length r.entries + left)
lines_before (EndLine f) r = lines_to_entries r (length r.entries)
lines_before Nothing r = lines r.version (recorded r)

-- what the head of the text has told so far
abbrev pub IsHeadedAs : TextHead → Kept → Type 0
IsHeadedAs f r = (f.version ≡ r.version) × (f.protocol ≡ r.tables.protocol) × (f.seats ≡ r.seats) × CanTell r.version r.tables.protocol r.seats

abbrev pub IsHeadedTo : Due → Kept → Type 0
IsHeadedTo Header r = (r.tables.protocol ≡ Msi) × (r.seats ≡ 0)
IsHeadedTo ProtocolLine r = (r.version ≡ Two) × (r.seats ≡ 0)
IsHeadedTo (ShapeLine f) r = IsHeadedAs f r
IsHeadedTo (SeatsLine f shape) r = IsHeadedAs f r × (r.version ≡ Two) × IsShapeIn r.version shape
IsHeadedTo (OpeningLine f shape) r = IsHeadedAs f r × IsShapeIn r.version shape
IsHeadedTo (CellCount f) r = IsHeadedAs f r × IsShapeIn r.version r.shape
IsHeadedTo (CellLine f left from) r = IsHeadedAs f r × IsShapeIn r.version r.shape
IsHeadedTo (EntryCount f) r = IsHeadedAs f r × IsShapeIn r.version r.shape
IsHeadedTo (EntryLine f left) r = IsHeadedAs f r × IsShapeIn r.version r.shape
IsHeadedTo (EndLine f) r = IsHeadedAs f r × IsShapeIn r.version r.shape
IsHeadedTo Nothing r = CanTell r.version r.tables.protocol r.seats × IsShapeIn r.version r.shape

-- from this place on the cells are those of the protocol's own tables
abbrev pub IsBaselineFrom : ℕ → Tables → Type 0
IsBaselineFrom from tables = (place : CellPlace) → from ≤ place_number place → cell_at tables place ≡ cell_at (baseline_of tables.protocol) place

-- the opening values are there once their line isn't due any more
abbrev pub HasOpeningTo : Due → Kept → Type 0
HasOpeningTo Header r = Unit {0}
HasOpeningTo ProtocolLine r = Unit {0}
HasOpeningTo (ShapeLine f) r = Unit {0}
HasOpeningTo (SeatsLine f shape) r = r.shape ≡ shape
HasOpeningTo (OpeningLine f shape) r = r.shape ≡ shape
HasOpeningTo due r = AreValues r.shape r.opening

-- behind the cells that were read the tables are the protocol's own
abbrev pub HasCellsTo : Due → Kept → Type 0
HasCellsTo (CellLine f left from) r = (0 < left) × (from ≤ 184) × IsBaselineFrom from r.tables
HasCellsTo (EntryCount f) r = Unit {0}
HasCellsTo (EntryLine f left) r = Unit {0}
HasCellsTo (EndLine f) r = Unit {0}
HasCellsTo Nothing r = Unit {0}
HasCellsTo due r = r.tables ≡ baseline_of r.tables.protocol

-- the entries that were read and those still to come are a million at most
abbrev pub HasEntriesTo : Due → Kept → Type 0
HasEntriesTo (EntryLine f left) r = (0 < left) × (length r.entries + left ≤ 1000000)
HasEntriesTo (EndLine f) r = length r.entries ≤ 1000000
HasEntriesTo Nothing r = length r.entries ≤ 1000000
HasEntriesTo due r = r.entries ≡ []

-- a recording has been read up to the line that is due
pub record IsReadTo (due : Due) (r : Kept) : Type 0 where
  pub shape : IsWithinLimits r.shape
  pub tables : AreWhole r.tables
  pub fits : All FitsEntry r.entries
  pub opening : HasOpeningTo due r
  pub cells : HasCellsTo due r
  pub entries : HasEntriesTo due r
  pub owners : AreOwners r.seats r.owners r.entries
  pub head : IsHeadedTo due r

-- the line of these words was due, and was taken: then the next is due
pub record IsTaken (due : Due) (old : Kept) (line : List (List ℕ)) (next : Due) (new : Kept) : Type 0 where
  pub leads : Leads due line next
  pub before : lines_before next new ≡ lines_before due old ++ line ∷ []
  pub read : IsReadTo next new

-- of which recording those that take the entries have to tell: of none until their number is known
abbrev pub told_at : Due → Kept → Option RecordingView
told_at (EntryLine f left) r = Some (recorded r)
told_at (EndLine f) r = Some (recorded r)
told_at Nothing r = Some (recorded r)
told_at due r = None

-- a recording has been read up to the line that is due: a draft keeps what stands in front of its entries, and of these others tell
pub record HasRead {N : Type 0} (tells : N → Option RecordingView → Type 0) (due : Due) (draft : Draft) (entries : N) (r : Kept) : Type 0 where
  pub head : r ≡ with_told (kept draft) r.entries r.owners
  pub read : IsReadTo due r
  pub told : tells entries (told_at due r)

-- the line of these words was due, and was taken: then the next is due, and so much has been read
pub record HasTakenLine {N : Type 0} (tells : N → Option RecordingView → Type 0) (due : Due) (old : Kept) (line : List (List ℕ)) (next : Due) (draft : Draft)
    (entries : N) : Type 0 where
  pub new : Kept
  pub taken : IsTaken due old line next new
  pub read : HasRead tells next draft entries new

-- an entry's line was taken
pub record HasTakenEntry {N : Type 0} (tells : N → Option RecordingView → Type 0) (due : Due) (old : Kept) (line : List (List ℕ)) (next : Due)
    (entries : N) : Type 0 where
  pub all : List Entry
  pub owners : List ℕ
  pub taken : IsTaken due old line next (with_told old all owners)
  pub told : tells entries (Some (recorded (with_told old all owners)))

-- there is room for the opening values
abbrev pub HasRoom : Draft → Type 0
HasRoom draft = 65536 ≤ vec_capacity draft.opening

-- at most so many lines are still to come
abbrev pub lines_left : Due → ℕ
lines_left Header = 1000194
lines_left ProtocolLine = 1000193
lines_left (ShapeLine f) = 1000192
lines_left (SeatsLine f shape) = 1000191
lines_left (OpeningLine f shape) = 1000190
lines_left (CellCount f) = 1000189
lines_left (CellLine f left from) = left + 1000004
lines_left (EntryCount f) = 1000003
lines_left (EntryLine f left) = left + 2
lines_left (EndLine f) = 1
lines_left Nothing = 0
