-- What overrides in JSON make of the baseline, or the first fault in them.
use Rattle.std.specs.Prelude.{◌≡◌, ℕ, List, [], ◌∷◌, ◌++◌, Bool, if◌then◌else◌, Option, Some, None, option_map, option_and_then, Result, Ok, Err}
use Rattle.std.specs.List.{list_any}
use Rattle.std.specs.Str.{IsUtf8}
use Rattle.serde_json.specs.Data.{Data, Items, no_items, item}
use Rattle.serde_json.specs.Find.{as_str}
use Rattle.serde_json.specs.Read.{read}
use Rattle.base.specs.Cells.{is_of}
use Rattle.base.specs.declared.controller.protocol.Protocol.{Protocol}
use Rattle.base.specs.declared.controller.entry.Change.{Change}
use Rattle.base.specs.declared.controller.entry.CellEntry.{CellEntry}
use Rattle.base.specs.declared.controller.entry.CellEntry.TheVariants.{Blank, Stall, Act}
use Rattle.cache_table.specs.Names as cache
use Rattle.cache_table.specs.Table as cache_table
use Rattle.cache_table.specs.Table.{CacheChange}
use Rattle.cache_table.specs.Baseline as cache_baseline
use Rattle.directory_table.specs.Names as directory
use Rattle.directory_table.specs.Table as directory_table
use Rattle.directory_table.specs.Table.{DirectoryChange}
use Rattle.directory_table.specs.Baseline as directory_baseline
use Rattle.tables.specs.Tables.{Tables}
use Rattle.tables.specs.declared.overrides.TablesFault.{TablesFault}
use Rattle.tables.specs.declared.overrides.TablesFault.TheVariants.{NotJson, BadShape, UnknownState, UnknownEvent, UnknownAction, SameCellTwice, NoMemory}
use Rattle.tables.specs.Written.{WrittenEntry, blank, stall, act, WrittenCell, written_cell, written_sides}

-- what comes of a thing that may be missing: it is a fault where it is
abbrev pub needed : {X Y : Type 0} → TablesFault → Option X → (X → Result Y TablesFault) → Result Y TablesFault
needed fault None f = Err fault
needed fault (Some x) f = f x

-- what comes of a thing that may be a fault already
abbrev pub unless_fault : {X Y : Type 0} → Result X TablesFault → (X → Result Y TablesFault) → Result Y TablesFault
unless_fault (Err fault) f = Err fault
unless_fault (Ok x) f = f x

-- an entry whose next state is looked up
abbrev pub known_next : {S : Type 0} → (List ℕ → Option S) → WrittenEntry (List ℕ) → Option (WrittenEntry S)
known_next named blank = Some blank
known_next named stall = Some stall
known_next named (act next actions) = option_map (λ s. act s actions) (named next)

-- the actions that items name, if each names one
abbrev pub known_actions : {A : Type 0} → (List ℕ → Option A) → Items → Option (List A)
known_actions named no_items = Some []
known_actions named (item d ds) =
    option_and_then (λ a. option_map (λ rest. a ∷ rest) (known_actions named ds)) (option_and_then named (as_str d))

-- an entry, if its actions are known
abbrev pub entry_of : {S A : Type 0} → (List ℕ → Option A) → WrittenEntry S → Option (CellEntry S A)
entry_of action_named blank = Some Blank
entry_of action_named stall = Some Stall
entry_of action_named (act next actions) = option_map (λ known. Act next known) (known_actions action_named actions)

-- the change that a cell makes: first its states are looked up, then its event, then its actions
abbrev pub change_of : {S E A : Type 0} → (List ℕ → Option S) → (List ℕ → Option E) → (List ℕ → Option A) → WrittenCell →
    Result (Change S E A) TablesFault
change_of state_named event_named action_named c =
    needed UnknownState (state_named c.state) (λ state.
    needed UnknownState (known_next state_named c.entry) (λ entry.
    needed UnknownEvent (event_named c.event) (λ event.
    needed UnknownAction (entry_of action_named entry) (λ entry. Ok (record { state = state; event = event; entry = entry })))))

-- whether two changes are of one cell
abbrev pub is_same_cell : {S E A : Type 0} → (S → ℕ) → (E → ℕ) → Change S E A → Change S E A → Bool
is_same_cell row column c d = is_of row column c d.state d.event

-- a change, unless its cell was changed before
abbrev pub first_of_cell : {C : Type 0} → (C → C → Bool) → List C → C → Result C TablesFault
first_of_cell same before change = if list_any (λ c. same c change) before then Err SameCellTwice else Ok change

-- the changes before, and then those that cells make, in order; the first fault counts
abbrev pub changes_after : {C : Type 0} → (WrittenCell → Result C TablesFault) → (C → C → Bool) → List C → Items → Result (List C) TablesFault
changes_after change_of same before no_items = Ok before
changes_after change_of same before (item d ds) =
    needed BadShape (written_cell d) (λ cell.
    unless_fault (change_of cell) (λ change.
    unless_fault (first_of_cell same before change) (λ new.
    changes_after change_of same (before ++ new ∷ []) ds)))

-- the changes that the cells of one side make, by how its states, events and actions are looked up and by the places of its cells
abbrev pub changes_of : {S E A : Type 0} → (List ℕ → Option S) → (List ℕ → Option E) → (List ℕ → Option A) → (S → ℕ) → (E → ℕ) → Items →
    Result (List (Change S E A)) TablesFault
changes_of state_named event_named action_named row column ds =
    changes_after (change_of state_named event_named action_named) (is_same_cell row column) [] ds

-- the changes of the cache's cells
abbrev pub cache_changes : Protocol → Items → Result (List CacheChange) TablesFault
cache_changes protocol ds =
    changes_of (cache.state_named_of protocol) (cache.event_named_of protocol) (cache.action_named_of protocol)
    cache_table.state_number cache_table.event_number ds

-- the changes of the directory's cells
abbrev pub directory_changes : Protocol → Items → Result (List DirectoryChange) TablesFault
directory_changes protocol ds =
    changes_of (directory.state_named_of protocol) (directory.event_named_of protocol) (directory.action_named_of protocol)
    directory_table.state_number directory_table.event_number ds

-- a protocol's own tables with overrides laid over them: the cache's cells are read before the directory's
abbrev pub overridden : Protocol → Data → Result Tables TablesFault
overridden protocol d =
    needed BadShape (written_sides d) (λ sides.
    unless_fault (cache_changes protocol sides.cache) (λ of_cache.
    unless_fault (directory_changes protocol sides.directory) (λ of_directory.
    Ok (record {
      protocol = protocol;
      cache = (cache_table.laid_over of_cache (record { protocol = protocol; cells = cache_baseline.baseline_cells protocol })).cells;
      directory = (directory_table.laid_over of_directory (record { protocol = protocol; cells = directory_baseline.baseline_cells protocol })).cells;
    }))))

-- these bytes are JSON, and this is what they say
abbrev pub IsJson : List ℕ → Data → Type 0
IsJson bytes d = IsUtf8 bytes × (read bytes ≡ Some d)

-- the answer to bytes is the overridden tables of a protocol, or the first fault, where memory doesn't run out
abbrev pub AnswersOverrides : Protocol → List ℕ → Result Tables TablesFault → Type 0
AnswersOverrides protocol bytes (Err NoMemory) = Unit {0}
AnswersOverrides protocol bytes (Err NotJson) = (d : Data) → ¬ IsJson bytes d
AnswersOverrides protocol bytes answer = (d : Data) × IsJson bytes d × (overridden protocol d ≡ answer)
