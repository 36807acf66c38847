use Rattle.std.proofs.Common.{◌≡◌, ◌≤◌, length, take}
use Rattle.tables.specs.CellPlaces.{all_places}
use Rattle.record.specs.Text.{changed}
use Rattle.record.proofs.Standing.{StandBefore}
use Rattle.record.proofs.writing.count_changed.Given as goal

abbrev pub invariant-loop-number : goal.invariant-loop-number
invariant-loop-number l = (l.count ≡ length (changed l.tables (take l.number all_places))) × (l.count ≤ l.number) × StandBefore l.number l.tables
