use Rattle.std.proofs.Common.{◌≡◌, ◌≤◌, true, false, ◌∙◌, sym, arith, ap}
use Rattle.tables.specs.CellPlaces.{place_number}
use Rattle.tables.specs.Tables.{baseline_of}
use Rattle.record_lines.specs.Cells.{cell_at, is_same, place_of}
use Rattle.record_lines.proofs.Alike.{in-order, differs, known}
use Rattle.record.proofs.reading.listed_cell.Goals as goal

pub returns-then-is_in : goal.returns-then-is_in
returns-then-is_in c = λ other listed spelled.
    let same = sym c.in_ok-cell.ensures.cell ∙ spelled in
    let no = differs c.args.protocol c.args.from c.in_ok-cell.cell other same listed in
    let place = place_of c.in_ok-cell.cell in
    let high : c.args.from ≤ place_number place = omega (arith, c.number.ensures.number, c.if-number-from.false, ap place_number c.place.ensures) in
    let own =
    ap (is_same c.in_ok-cell.cell) (c.requires.own place high ∙ ap (λ p. cell_at (baseline_of p) place) c.requires.protocol) in
    let it : true ≡ false = sym c.if-is_in.true ∙ c.is_in.ensures.same ∙ own ∙ no in
    absurd (cc it)

pub returns-then-not-is_known : goal.returns-then-not-is_known
returns-then-not-is_known c = λ other listed spelled.
    let same = sym c.in_ok-cell.ensures.cell ∙ spelled in
    let yes = known c.args.protocol c.args.from c.in_ok-cell.cell other same listed in
    cc (yes, c.if-not-is_known.ensures)

pub returns-then-number-from : goal.returns-then-number-from
returns-then-number-from c = λ other listed spelled.
    let same = sym c.in_ok-cell.ensures.cell ∙ spelled in
    let order = in-order c.args.protocol c.args.from c.in_ok-cell.cell other same listed in
    absurd (omega (arith, order, c.number.ensures.number, c.if-number-from.true, ap place_number c.place.ensures))
