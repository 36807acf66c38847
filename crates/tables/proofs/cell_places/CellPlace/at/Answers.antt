use Rattle.std.proofs.Common.{sym}
use Rattle.std.proofs.lemmas.Option.{slice_get_past}
use Rattle.tables.specs.CellPlaces.{all_places}
use Rattle.tables.proofs.cell_places.CellPlace.at.Goals as goal

pub returns-then-number-lt-CELLS : goal.returns-then-number-lt-CELLS
returns-then-number-lt-CELLS c = sym c.with_number.ensures

pub returns-else-number-lt-CELLS : goal.returns-else-number-lt-CELLS
returns-else-number-lt-CELLS c = sym (slice_get_past all_places c.args.number c.if-number-lt-CELLS.false)
