use Rattle.tables.proofs.CellPlaces.{get-cache, get-directory}
use Rattle.tables.proofs.cell_places.CellPlace.with_number.Goals as goal

pub returns-then-number-lt156 : goal.returns-then-number-lt156
returns-then-number-lt156 c = get-cache c.args.number c.if-number-lt156.true

pub returns-else-number-lt156 : goal.returns-else-number-lt156
returns-else-number-lt156 c = get-directory c.args.number c.if-number-lt156.false c.requires
