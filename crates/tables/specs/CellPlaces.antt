-- The places of the cells of both tables, in the order in which cells are printed.
use Rattle.std.specs.Prelude.{ℕ, ◌+◌, ◌*◌, List, ◌++◌, map}
use Rattle.std.specs.List.{flat_map}
use Rattle.cache_table.specs.Baseline as cache_baseline
use Rattle.cache_table.specs.Table as cache_table
use Rattle.directory_table.specs.Baseline as directory_baseline
use Rattle.directory_table.specs.Table as directory_table
use Rattle.tables.specs.declared.cell_places.CellPlace.{CellPlace}
use Rattle.tables.specs.declared.cell_places.CellPlace.TheVariants.{Cache, Directory}

-- the places of the caches' cells, by state and then by event
abbrev pub cache_places : List CellPlace
cache_places = flat_map (λ state. map (λ event. Cache state event) cache_baseline.all_events) cache_baseline.all_states

-- the places of the directory's cells, by state and then by event
abbrev pub directory_places : List CellPlace
directory_places = flat_map (λ state. map (λ event. Directory state event) directory_baseline.all_events) directory_baseline.all_states

-- the places of all cells, in order: the caches' before the directory's
abbrev pub all_places : List CellPlace
all_places = cache_places ++ directory_places

-- the number of a place among all places, counted from 0
abbrev pub place_number : CellPlace → ℕ
place_number (Cache state event) = cache_table.state_number state * 13 + cache_table.event_number event
place_number (Directory state event) = 156 + directory_table.state_number state * 7 + directory_table.event_number event
