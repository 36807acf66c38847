-- Overrides as the program holds them, seen as what is written.
use Rattle.std.specs.Prelude.{◌≡◌, ◌≤◌, ℕ, List, length, Result, Ok, Err}
use Rattle.std.specs.Borrow.{Bor}
use Rattle.serde_json.specs.View.{items_view}
use Rattle.tables.specs.Written as written
use Rattle.tables.specs.declared.overrides.written.WrittenEntry as held
use Rattle.tables.specs.declared.overrides.written.WrittenEntry.TheVariants.{Blank, Stall, Act}
use Rattle.tables.specs.declared.overrides.written.WrittenCell.{WrittenCell}
use Rattle.tables.specs.declared.overrides.written.WrittenSides.{WrittenSides}
use Rattle.tables.specs.declared.overrides.TablesFault.{TablesFault}
use Rattle.tables.specs.declared.overrides.TablesFault.TheVariants.{NoMemory}

-- the bytes of a text
abbrev pub text : Bor (List ℕ) → List ℕ
text t = t.now

-- an entry, with its next state seen so
abbrev pub seen_entry : {S T : Type 0} → (S → T) → held.WrittenEntry S → written.WrittenEntry T
seen_entry seen Blank = written.blank
seen_entry seen Stall = written.stall
seen_entry seen (Act next actions) = written.act (seen next) (items_view actions.now)

-- a cell
abbrev pub seen_cell : WrittenCell → written.WrittenCell
seen_cell c = record { state = text c.state; event = text c.event; entry = seen_entry text c.entry }

-- both sides
abbrev pub seen_sides : WrittenSides → written.WrittenSides
seen_sides s = record { cache = items_view s.cache.now; directory = items_view s.directory.now }

-- a result is this one, seen so, where memory doesn't run out
abbrev pub Gives : {X Y : Type 0} → (X → Y) → Result X TablesFault → Result Y TablesFault → Type 0
Gives seen (Ok x) expected = expected ≡ Ok (seen x)
Gives seen (Err NoMemory) expected = Unit {0}
Gives seen (Err fault) expected = expected ≡ Err fault

-- an entry has at most eight actions
abbrev pub HasFew : {S : Type 0} → held.WrittenEntry S → Type 0
HasFew Blank = Unit {0}
HasFew Stall = Unit {0}
HasFew (Act next actions) = length actions.now ≤ 8
