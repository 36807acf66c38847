-- Which line is due after which in a recording's text, and what a well formed line is.
use Rattle.std.specs.Prelude.{◌≡◌, ℕ, ◌+◌, ◌-◌, ◌<◌, ◌≤◌, ◌^◌, List, [], ◌∷◌, true, false, All, Option, Some, None, length, zero, suc}
use Rattle.base.specs.Extent.{Extent}
use Rattle.base.specs.Words.{words}
use Rattle.base.specs.Spelling.{FitsStep, FitsOutcome}
use Rattle.tables.specs.CellPlaces.{place_number}
use Rattle.tables.specs.Tables.{baseline_of}
use Rattle.record_lines.specs.declared.due.Due.{Due}
use Rattle.record_lines.specs.declared.due.Due.TheVariants.{Header, ProtocolLine, ShapeLine, SeatsLine, OpeningLine, CellCount, CellLine, EntryCount}
use Rattle.record_lines.specs.declared.due.Due.TheVariants.{EntryLine, EndLine, Nothing}
use Rattle.record_lines.specs.declared.due.TextHead.{TextHead}
use Rattle.record_lines.specs.declared.entry.Entry.{Entry}
use Rattle.record_lines.specs.declared.told.Told.{Told}
use Rattle.record_lines.specs.declared.version.Version.{Version}
use Rattle.record_lines.specs.declared.version.Version.TheVariants.{Two}
use Rattle.base.specs.declared.controller.protocol.Protocol.{Protocol}
use Rattle.record_lines.specs.Versions.{form, header_leads, shape_leads_in, protocol_words, seats_words, IsShapeIn}
use Rattle.record_lines.specs.declared.cells.Cell.{Cell}
use Rattle.record_lines.specs.Cells.{cell_at, cell_words, is_known, most_cells, place_of, FitsCell, is_same}
use Rattle.record_lines.specs.Text.{header_words, shape_words, opening_words, cells_words, entries_words, told_words, end_words}

-- what is due where so many cells are still to come, the next at a place of this number or a higher one
abbrev pub cells_due : TextHead → ℕ → ℕ → Due
cells_due f zero from = EntryCount f
cells_due f (suc left) from = CellLine f (suc left) from

-- what is due where so many entries are still to come
abbrev pub entries_due : TextHead → ℕ → Due
entries_due f zero = EndLine f
entries_due f (suc left) = EntryLine f (suc left)

-- one opening value for each block
pub record AreValues (shape : Extent) (values : List ℕ) : Type 0 where
  pub each : length values ≡ shape.blocks
  pub small : All (λ value. value < 2 ^ 64) values

-- a cell that may be listed from a place on: its protocol has all that it names, and it differs from the protocol's own
pub record MayBeListed (protocol : Protocol) (from : ℕ) (cell : Cell) : Type 0 where
  pub fits : FitsCell cell
  pub known : is_known protocol cell ≡ true
  pub in_order : from ≤ place_number (place_of cell)
  pub differs : is_same cell (cell_at (baseline_of protocol) (place_of cell)) ≡ false

-- the numbers of an entry are in range of their types
abbrev pub FitsEntry : Entry → Type 0
FitsEntry e = FitsStep e.step × FitsOutcome e.outcome

-- where there are so many seats, whose an entry may be: nobody's where there are none, and else one seat's
abbrev pub IsOwner : ℕ → Option ℕ → Type 0
IsOwner seats None = seats ≡ 0
IsOwner seats (Some seat) = seat < seats

-- an entry that may be told where there are so many seats
abbrev pub FitsTold : ℕ → Told → Type 0
FitsTold seats t = IsOwner seats t.owner × FitsEntry t.entry

-- the line of these words is well formed as what is due, and behind it the next is due
abbrev pub Leads : Due → List (List ℕ) → Due → Type 0
Leads Header line next = (version : Version) × (line ≡ header_words version) × (next ≡ header_leads version)
Leads ProtocolLine line next = (protocol : Protocol) × (line ≡ protocol_words protocol) × (next ≡ ShapeLine (form Two protocol 0))
Leads (ShapeLine f) line next =
    (shape : Extent) × IsShapeIn f.version shape × (line ≡ shape_words shape) × (next ≡ shape_leads_in f.version f shape)
Leads (SeatsLine f shape) line next =
    (seats : ℕ) × (seats ≤ 64) × (line ≡ seats_words seats) × (next ≡ OpeningLine (form f.version f.protocol seats) shape)
Leads (OpeningLine f shape) line next = (values : List ℕ) × AreValues shape values × (line ≡ opening_words values) × (next ≡ CellCount f)
Leads (CellCount f) line next = (count : ℕ) × (count ≤ most_cells f.protocol) × (line ≡ cells_words count) × (next ≡ cells_due f count 0)
Leads (CellLine f left from) line next =
    (cell : Cell) × MayBeListed f.protocol from cell × (line ≡ cell_words cell) × (next ≡ cells_due f (left - 1) (place_number (place_of cell) + 1))
Leads (EntryCount f) line next = (count : ℕ) × (count ≤ 1000000) × (line ≡ entries_words count) × (next ≡ entries_due f count)
Leads (EntryLine f left) line next = (t : Told) × FitsTold f.seats t × (line ≡ told_words t) × (next ≡ entries_due f (left - 1))
Leads (EndLine f) line next = (line ≡ end_words) × (next ≡ Nothing)
Leads Nothing line next = ⊥

-- these lines are well formed one after the other: from what is due at the first of them to what is due behind the last
abbrev pub Follow : Due → List (List ℕ) → Due → Type 0
Follow due [] last = due ≡ last
Follow due (line ∷ lines) last = (next : Due) × Leads due (words line) next × Follow next lines last
