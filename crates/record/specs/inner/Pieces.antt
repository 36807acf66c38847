-- What goes out where a recording's text is put into a sink piece by piece. Only private clauses cite this file.
use Rattle.std.specs.Prelude.{◌≡◌, ℕ, ◌<◌, ◌≤◌, ◌+◌, List, [], ◌∷◌, ◌++◌, Option, if◌then◌else◌, codes, slice_index_or, length, map, take, ◌^◌}
use Rattle.std.specs.Fmt.{decimal}
use Rattle.std.specs.Io.KnownBytes.{Appends}
use Rattle.base.specs.Extent.{Extent}
use Rattle.base.specs.declared.controller.protocol.Protocol.{Protocol}
use Rattle.record_lines.specs.declared.told.Told.{Told}
use Rattle.record_lines.specs.declared.version.Version.TheVariants.{Two}
use Rattle.record_lines.specs.Versions.{protocol_words, seats_words}
use Rattle.tables.specs.CellPlaces.{all_places}
use Rattle.tables.specs.Tables.{Tables}
use Rattle.tables.specs.declared.cell_places.CellPlace.{CellPlace}
use Rattle.record_lines.specs.declared.entry.Entry.{Entry}
use Rattle.record_lines.specs.Cells.{cell_at, cell_words}
use Rattle.record_lines.specs.Grammar.{FitsEntry}
use Rattle.record.specs.View.{RecordingView}
use Rattle.record_lines.specs.Text.{line, header_words, shape_words, cells_words, entries_words, told_words, end_words}
use Rattle.record.specs.Text.{changed_cells, is_changed, told}

-- a sink failed before it had all of a text: exactly a front of it went out, and so many bytes in all
pub record IsCutOff (before after : Option (List ℕ)) (text : List ℕ) (already in_all : ℕ) : Type 0 where
  pub count : ℕ
  pub short : count < length text
  pub sum : in_all ≡ already + count
  pub front : Appends before after (take count text)

-- all of a text went out, and so many bytes in all
pub record IsOut (before after : Option (List ℕ)) (text : List ℕ) (already in_all : ℕ) : Type 0 where
  pub sum : in_all ≡ already + length text
  pub all : Appends before after text

-- the lines of the header, the protocol, the shape and the seats, and the first word of the next line
abbrev pub head_piece : Protocol → Extent → ℕ → List ℕ
head_piece protocol shape seats =
    line (header_words Two) ++ line (protocol_words protocol) ++ line (shape_words shape) ++ line (seats_words seats) ++ codes "opening"

-- an opening value, with a blank before it
abbrev pub value_piece : ℕ → List ℕ
value_piece value = 32 ∷ decimal value

-- the end of the line of the opening values, and the line that says how many cells follow
abbrev pub cells_piece : ℕ → List ℕ
cells_piece count = 10 ∷ line (cells_words count)

-- the line of the cell at a place, if it differs from the protocol's own
abbrev pub cell_piece : Tables → CellPlace → List ℕ
cell_piece tables place = if is_changed tables place then line (cell_words (cell_at tables place)) else []

-- the line that says how many entries follow
abbrev pub entries_piece : ℕ → List ℕ
entries_piece count = line (entries_words count)

-- the line of an entry
abbrev pub told_piece : Told → List ℕ
told_piece t = line (told_words t)

-- the last line
abbrev pub end_piece : List ℕ
end_piece = line end_words

-- a text is this piece, which is short
pub record IsPiece (piece text : List ℕ) : Type 0 where
  pub is : text ≡ piece
  pub short : length text ≤ 192

-- the pieces of a recording's text, in order
abbrev pub pieces : RecordingView → List (List ℕ)
pieces r =
    head_piece r.tables.protocol r.shape r.seats ∷ map value_piece r.opening ++
    (cells_piece (length (changed_cells r.tables)) ∷ map (cell_piece r.tables) all_places ++
    (entries_piece (length r.entries) ∷ map told_piece (told r.owners r.entries) ++ end_piece ∷ []))

-- how many pieces stand before those of the entries
abbrev pub places_before : RecordingView → ℕ
places_before r = length r.opening + 187

-- the opening value or the entry that the piece of this number tells has numbers in range of their types
pub record PieceFits (r : RecordingView) (number : ℕ) : Type 0 where
  pub value : (k d : ℕ) → number ≡ k + 1 → k < length r.opening → slice_index_or r.opening k d < 2 ^ 64
  pub entry : (k : ℕ) (d : Entry) → number ≡ places_before r + k → k < length r.entries → FitsEntry (slice_index_or r.entries k d)
