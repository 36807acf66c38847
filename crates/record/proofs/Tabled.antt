-- Whole tables whose cells are the same are the same.
use Rattle.std.proofs.Common.{◌≡◌, ◌<◌, ℕ, zero, suc, List, [], ◌∷◌, map, get_or, refl, ap, sym, ◌∙◌, arith}
use Rattle.std.specs.List.{range_with_len}
use Rattle.std.proofs.lemmas.List.{same_lists, get_or_default}
use Rattle.std.proofs.lemmas.List.FromFn.{get_or-range_with_len}
use Rattle.base.specs.Cells.{Cells, HasSize, cell_of}
use Rattle.base.specs.declared.controller.entry.CellEntry.{CellEntry}
use Rattle.base.specs.declared.controller.entry.CellEntry.TheVariants.{Blank}
use Rattle.cache_table.specs.Baseline as cache_baseline
use Rattle.cache_table.specs.Table as cache_table
use Rattle.cache_table.specs.Names.{first_state, first_event}
use Rattle.directory_table.specs.Baseline as directory_baseline
use Rattle.directory_table.specs.Table as directory_table
use Rattle.directory_table.specs.Names as directory_names
use Rattle.tables.specs.Tables.{Tables}
use Rattle.tables.specs.declared.cell_places.CellPlace.{CellPlace}
use Rattle.tables.specs.declared.cell_places.CellPlace.TheVariants as place
use Rattle.record_lines.specs.declared.cells.Cell.{Cell}
use Rattle.record_lines.specs.declared.cells.Cell.TheVariants as cell
use Rattle.record_lines.specs.Cells.{cell_at}
use Rattle.record.specs.Recordable.{AreWhole}

get_or-mapped : {X : Type 0} (f : X → ℕ) (xs : List X) (i : ℕ) (d : X) → get_or (map f xs) i (f d) ≡ f (get_or xs i d)
get_or-mapped f [] i d = refl
get_or-mapped f (x ∷ xs) zero d = refl
get_or-mapped f (x ∷ xs) (suc i) d = get_or-mapped f xs i d

-- each number is that of one thing of a list, where their numbers count up
found : {X : Type 0} (f : X → ℕ) (xs : List X) (n i : ℕ) (d : X) → map f xs ≡ range_with_len 0 n → i < n → f (get_or xs i d) ≡ i
found f xs n i d e low = sym (get_or-mapped f xs i d) ∙ ap (λ l. get_or l i (f d)) e ∙ (get_or-range_with_len 0 n i (f d) low ∙ omega arith)

-- a table is of these states and events, which stand in these places
record HasPlaces {S E : Type 0} (states : List S) (events : List E) (row : S → ℕ) (column : E → ℕ) (rows columns : ℕ) : Type 0 where
  rows_count : map row states ≡ range_with_len 0 rows
  columns_count : map column events ≡ range_with_len 0 columns
  some_state : S
  some_event : E

-- the cells of two tables are the same
abbrev AreAlike : {S E A : Type 0} → (S → ℕ) → (E → ℕ) → Cells S A → Cells S A → Type 0
AreAlike {S} {E} row column c d = (s : S) (e : E) → cell_of row column c s e ≡ cell_of row column d s e

same-cell : {S E A : Type 0} (states : List S) (events : List E) (row : S → ℕ) (column : E → ℕ) (rows columns : ℕ) →
    HasPlaces states events row column rows columns → (c d : Cells S A) → AreAlike row column c d → (i j : ℕ) → i < rows → j < columns →
    get_or (get_or c i []) j Blank ≡ get_or (get_or d i []) j Blank
same-cell {S} {E} {A} states events row column rows columns places c d same i j low below =
    let state : S = get_or states i places.some_state in
    let event : E = get_or events j places.some_event in
    let blank : CellEntry S A = Blank in
    let in_row : row state ≡ i = found row states rows i places.some_state places.rows_count low in
    let in_column : column event ≡ j = found column events columns j places.some_event places.columns_count below in
    ap (λ k. get_or (get_or c k []) j blank) (sym in_row)
    ∙ ap (λ k. get_or (get_or c (row state) []) k blank) (sym in_column)
    ∙ same state event
    ∙ ap (λ k. get_or (get_or d (row state) []) k blank) in_column
    ∙ ap (λ k. get_or (get_or d k []) j blank) in_row

same-row : {S E A : Type 0} (states : List S) (events : List E) (row : S → ℕ) (column : E → ℕ) (rows columns : ℕ) →
    HasPlaces states events row column rows columns → (c d : Cells S A) → HasSize rows columns c → HasSize rows columns d → AreAlike row column c d →
    (i : ℕ) → i < rows → get_or c i [] ≡ get_or d i []
same-row states events row column rows columns places c d h k same i low =
    let m = h.columns_are i [] (omega (arith, low, h.rows_are)) in
    let n = k.columns_are i [] (omega (arith, low, k.rows_are)) in
    same_lists (get_or c i []) (get_or d i []) (m ∙ sym n)
    (λ j e below. get_or_default (get_or c i []) j e Blank (omega (arith, below))
    ∙ same-cell states events row column rows columns places c d same i j low (omega (arith, below, m))
    ∙ get_or_default (get_or d i []) j Blank e (omega (arith, below, m, n)))

same-table : {S E A : Type 0} (states : List S) (events : List E) (row : S → ℕ) (column : E → ℕ) (rows columns : ℕ) →
    HasPlaces states events row column rows columns → (c d : Cells S A) → HasSize rows columns c → HasSize rows columns d → AreAlike row column c d →
    c ≡ d
same-table states events row column rows columns places c d h k same =
    same_lists c d (h.rows_are ∙ sym k.rows_are)
    (λ i e low. get_or_default c i e [] (omega (arith, low))
    ∙ same-row states events row column rows columns places c d h k same i (omega (arith, low, h.rows_are))
    ∙ get_or_default d i [] e (omega (arith, low, h.rows_are, k.rows_are)))

cache-places : HasPlaces cache_baseline.all_states cache_baseline.all_events cache_table.state_number cache_table.event_number 12 13
cache-places = record { rows_count = refl; columns_count = refl; some_state = first_state; some_event = first_event }

directory-places :
    HasPlaces directory_baseline.all_states directory_baseline.all_events directory_table.state_number directory_table.event_number 4 7
directory-places =
    record { rows_count = refl; columns_count = refl; some_state = directory_names.first_state; some_event = directory_names.first_event }

at_line : Cell → cache_table.CacheEntry
at_line (cell.Cache state event entry) = entry
at_line (cell.Directory state event entry) = Blank

at_home : Cell → directory_table.DirectoryEntry
at_home (cell.Cache state event entry) = Blank
at_home (cell.Directory state event entry) = entry

-- tables are what their cells are
pub tables-same : (t u : Tables) → t.protocol ≡ u.protocol → AreWhole t → AreWhole u → ((s : CellPlace) → cell_at t s ≡ cell_at u s) → t ≡ u
unfolding at_line at_home
tables-same t u p h k same =
    ap (λ q. let x : Tables = record { protocol = q; cache = t.cache; directory = t.directory } in x) p
    ∙ ap (λ c. let x : Tables = record { protocol = u.protocol; cache = c; directory = t.directory } in x)
    (same-table cache_baseline.all_states cache_baseline.all_events cache_table.state_number cache_table.event_number 12 13 cache-places
    t.cache u.cache h.cache.whole k.cache.whole (λ s e. ap at_line (same (place.Cache s e))))
    ∙ ap (λ d. let x : Tables = record { protocol = u.protocol; cache = u.cache; directory = d } in x)
    (same-table directory_baseline.all_states directory_baseline.all_events directory_table.state_number directory_table.event_number 4 7
    directory-places t.directory u.directory h.directory.whole k.directory.whole (λ s e. ap at_home (same (place.Directory s e))))
