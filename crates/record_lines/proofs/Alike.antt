-- Cells that are spelled alike, and cells that hold the same.
use Rattle.std.proofs.Common.{◌≡◌, ◌≤◌, ℕ, Bool, true, false, not, List, refl, ap, sym, subst}
use Rattle.base.specs.declared.controller.protocol.Protocol.{Protocol}
use Rattle.base.specs.Entries.{IsNoChange}
use Rattle.base.specs.declared.controller.entry.Side.TheVariants as side
use Rattle.base.proofs.Same.{entry-equal}
use Rattle.base.proofs.Spelled.{change-one, same-name}
use Rattle.cache_table.specs.Baseline as cache_baseline
use Rattle.cache_table.specs.Names as cache
use Rattle.cache_table.specs.Table as cache_table
use Rattle.cache_table.specs.inner.Standing as cache_standing
use Rattle.directory_table.specs.Baseline as directory_baseline
use Rattle.directory_table.specs.Names as directory
use Rattle.directory_table.specs.Table as directory_table
use Rattle.directory_table.specs.inner.Standing as directory_standing
use Rattle.tables.specs.CellPlaces.{place_number}
use Rattle.tables.specs.Tables.{Tables, baseline_of}
use Rattle.tables.specs.declared.cell_places.CellPlace.{CellPlace}
use Rattle.tables.specs.declared.cell_places.CellPlace.TheVariants as place
use Rattle.record_lines.specs.declared.cells.Cell.{Cell}
use Rattle.record_lines.specs.declared.cells.Cell.TheVariants as cell
use Rattle.record_lines.specs.Cells.{cell_at, cell_words, is_known, is_same, place_of}
use Rattle.record_lines.specs.Grammar.{MayBeListed}
use Rattle.record_lines.specs.Reading.{IsNoCell}

-- cells that are spelled alike are the same
pub cell-same : (c d : Cell) → cell_words c ≡ cell_words d → c ≡ d
cell-same (cell.Cache s e x) (cell.Cache t f y) h =
    ap (λ c. cell.Cache c.state c.event c.entry)
    (change-one cache.state_name cache.event_name cache.action_name
    (same-name cache_baseline.all_states cache.state_name cache_standing.state_found)
    (same-name cache_baseline.all_events cache.event_name cache_standing.event_found)
    (same-name cache.all_actions cache.action_name cache_standing.action_found) side.Cache
    (record { state = s; event = e; entry = x }) (record { state = t; event = f; entry = y }) h)
cell-same (cell.Cache s e x) (cell.Directory t f y) h = absurd (cc)
cell-same (cell.Directory s e x) (cell.Cache t f y) h = absurd (cc)
cell-same (cell.Directory s e x) (cell.Directory t f y) h =
    ap (λ c. cell.Directory c.state c.event c.entry)
    (change-one directory.state_name directory.event_name directory.action_name
    (same-name directory_baseline.all_states directory.state_name directory_standing.state_found)
    (same-name directory_baseline.all_events directory.event_name directory_standing.event_found)
    (same-name directory.all_actions directory.action_name directory_standing.action_found) side.Directory
    (record { state = s; event = e; entry = x }) (record { state = t; event = f; entry = y }) h)

-- cells that are spelled alike have one place
pub same-place : (c d : Cell) → cell_words c ≡ cell_words d → place_of c ≡ place_of d
same-place c d h = ap place_of (cell-same c d h)

-- what may be listed of one of them may be listed of the other
pub in-order : (p : Protocol) (from : ℕ) (c d : Cell) → cell_words c ≡ cell_words d → MayBeListed p from d → from ≤ place_number (place_of c)
in-order p from c d h listed = subst (λ e. from ≤ place_number (place_of e)) (sym (cell-same c d h)) listed.in_order

pub differs : (p : Protocol) (from : ℕ) (c d : Cell) → cell_words c ≡ cell_words d → MayBeListed p from d →
    is_same c (cell_at (baseline_of p) (place_of c)) ≡ false
differs p from c d h listed = subst (λ e. is_same e (cell_at (baseline_of p) (place_of e)) ≡ false) (sym (cell-same c d h)) listed.differs

pub known : (p : Protocol) (from : ℕ) (c d : Cell) → cell_words c ≡ cell_words d → MayBeListed p from d → is_known p c ≡ true
known p from c d h listed = subst (λ e. is_known p e ≡ true) (sym (cell-same c d h)) listed.known

not-false : (b : Bool) → not b ≡ false → b ≡ true
not-false true e = refl
not-false false e = cc

-- a cell that doesn't differ from that of other tables is that
pub unchanged : (t u : Tables) (s : CellPlace) → not (is_same (cell_at t s) (cell_at u s)) ≡ false → cell_at t s ≡ cell_at u s
unchanged t u (place.Cache s e) h =
    ap (cell.Cache s e)
    (entry-equal cache_baseline.all_states cache_table.state_number cache_standing.state_stands cache.all_actions cache.action_number
    cache_standing.action_stands _ _ (not-false _ h))
unchanged t u (place.Directory s e) h =
    ap (cell.Directory s e)
    (entry-equal directory_baseline.all_states directory_table.state_number directory_standing.state_stands directory.all_actions
    directory.action_number directory_standing.action_stands _ _ (not-false _ h))

-- what spells no change of either side spells no cell
pub no_cell : (line : List (List ℕ)) → IsNoChange cache.state_name cache.event_name cache.action_name side.Cache line →
    IsNoChange directory.state_name directory.event_name directory.action_name side.Directory line → IsNoCell line
no_cell line none never (cell.Cache s e x) fits = none (record { state = s; event = e; entry = x }) fits
no_cell line none never (cell.Directory s e x) fits = never (record { state = s; event = e; entry = x }) fits
