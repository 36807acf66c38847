-- The text of a recording: its lines, and the words of each.
use Rattle.record_lines.specs.Text.{line, header_words, shape_words, opening_words, cells_words, entries_words, told_words, end_words}
use Rattle.std.specs.Prelude.{ℕ, List, [], ◌∷◌, ◌++◌, Bool, Some, None, map, length, filter, not}
use Rattle.std.specs.List.{flat_map}
use Rattle.tables.specs.CellPlaces.{all_places}
use Rattle.tables.specs.Tables.{Tables, baseline_of}
use Rattle.tables.specs.declared.cell_places.CellPlace.{CellPlace}
use Rattle.record_lines.specs.declared.entry.Entry.{Entry}
use Rattle.record_lines.specs.declared.cells.Cell.{Cell}
use Rattle.record_lines.specs.Cells.{cell_at, cell_words, is_same}
use Rattle.record.specs.View.{RecordingView}
use Rattle.record_lines.specs.declared.told.Told.{Told}
use Rattle.record_lines.specs.declared.version.Version.{Version}
use Rattle.record_lines.specs.Versions.{protocol_lines, seats_lines}

-- the entries as they are told: each with the owner at its place, if there is one
abbrev pub told : List ℕ → List Entry → List Told
told owners [] = []
told [] (e ∷ entries) = record { owner = None; entry = e } ∷ told [] entries
told (seat ∷ owners) (e ∷ entries) = record { owner = Some seat; entry = e } ∷ told owners entries

-- whether the cell at this place differs from the protocol's own
abbrev pub is_changed : Tables → CellPlace → Bool
is_changed tables place = not (is_same (cell_at tables place) (cell_at (baseline_of tables.protocol) place))

-- the cells at these places that differ from the protocol's own
abbrev pub changed : Tables → List CellPlace → List Cell
changed tables places = map (cell_at tables) (filter (is_changed tables) places)

-- the cells that differ from the protocol's own, in order
abbrev pub changed_cells : Tables → List Cell
changed_cells tables = changed tables all_places

-- the lines of a recording up to that of the opening values
abbrev pub head_lines : Version → RecordingView → List (List (List ℕ))
head_lines version r =
    header_words version ∷ protocol_lines version r.tables.protocol ++ (shape_words r.shape ∷ seats_lines version r.seats ++ opening_words r.opening ∷ [])

-- the lines of a recording
abbrev pub lines : Version → RecordingView → List (List (List ℕ))
lines version r =
    head_lines version r ++
    (cells_words (length (changed_cells r.tables)) ∷ map cell_words (changed_cells r.tables) ++
    (entries_words (length r.entries) ∷ map told_words (told r.owners r.entries) ++ end_words ∷ []))

-- the text of a recording
abbrev pub text : Version → RecordingView → List ℕ
text version r = flat_map line (lines version r)
