use Rattle.std.proofs.Common.{◌≡◌, ℕ, ◌<◌, Some, slice_get}
use Rattle.tables.specs.CellPlaces.{all_places}
use Rattle.tables.specs.declared.cell_places.CellPlace.{CellPlace}
use Rattle.certify.specs.inner.Demands.{Meets}
use Rattle.certify.proofs.certifying.first_against.Given as goal

abbrev pub invariant-loop-number : goal.invariant-loop-number
invariant-loop-number l = (k : ℕ) → k < l.number → (other : CellPlace) → slice_get all_places k ≡ Some other → Meets l.tables l.demand other
