use Rattle.std.proofs.Common.{◌-◌, ◌+◌, ℕ, List, get_or, length, ap, sym, ◌∙◌, arith}
use Rattle.std.proofs.lemmas.Grind.{common_steps}
use Rattle.std.proofs.lemmas.Option.{get_or_from_slice_get}
use Rattle.record.specs.inner.Pieces.{value_piece, cells_piece, cell_piece, entries_piece}
use Rattle.record.proofs.PieceAt.{value-at, cells-at, cell-at, entries-at, entry-at, end-at, fits-here}
use Rattle.record.proofs.Whole.{pieces-count}
use Rattle.tables.specs.CellPlaces.{all_places}
use Rattle.tables.specs.Tables.{Tables}
use Rattle.record.proofs.recording.Recording.piece.Goals as goal

pub returns-then-number-cells-clause-piece : goal.returns-then-number-cells-clause-piece
returns-then-number-cells-clause-piece c =
    let values = ap length c.opening-opening.ensures.value in
    record {
      is =
          c.value.ensures.piece.is
          ∙ ap (λ (l : List ℕ). value_piece (get_or l (c.args.number - 1) 0)) c.opening-opening.ensures.value
          ∙ sym
          (value-at c.args.self.now c.args.number (c.args.number - 1) 0 (omega (arith, c.if-number-eq0.false))
          (omega (arith, values, c.if-number-eq0.false, c.if-number-cells.true)));
      short = grind (arith, common_steps);
    }

pub returns-then-number-cells-2-clause-piece : goal.returns-then-number-cells-2-clause-piece
returns-then-number-cells-2-clause-piece c =
    let values = ap length c.opening-opening.ensures.value in
    record {
      is =
          c.cells_head.ensures.is ∙ ap cells_piece c.requires.changed
          ∙ sym (cells-at c.args.self.now c.args.number (omega (arith, values, c.if-number-cells-2.true)));
      short = grind (arith, common_steps);
    }

pub returns-then-number-count-clause-piece : goal.returns-then-number-count-clause-piece
returns-then-number-count-clause-piece c =
    let values = ap length c.opening-opening.ensures.value in
    let i = c.args.number - (length c.opening-opening.result.now + 1) - 1 in
    record {
      is =
          c.cell_if_changed.ensures.is
          ∙ ap (λ (t : Tables). cell_piece t c.with_number.result) c.tables.ensures
          ∙ ap (cell_piece c.args.self.now.tables)
          (sym (get_or_from_slice_get all_places i c.with_number.result c.with_number.result c.with_number.ensures))
          ∙ sym (cell-at c.args.self.now c.args.number i c.with_number.result
          (omega (arith, values, c.if-number-eq0.false, c.if-number-cells.false, c.if-number-cells-2.false))
          (omega (arith, c.if-number-cells.false, c.if-number-cells-2.false, c.if-number-count.true)));
      short = grind (arith, common_steps);
    }

pub returns-then-number-count-2-clause-piece : goal.returns-then-number-count-2-clause-piece
returns-then-number-count-2-clause-piece c =
    let values = ap length c.opening-opening.ensures.value in
    record {
      is =
          c.entries_head.ensures.is ∙ ap entries_piece (ap length c.entries-entries.ensures.value)
          ∙ sym (entries-at c.args.self.now c.args.number (omega (arith, values, c.if-number-count-2.true)));
      short = grind (arith, common_steps);
    }

pub returns-then-number-count-3-clause-piece : goal.returns-then-number-count-3-clause-piece
returns-then-number-count-3-clause-piece c =
    let values = ap length c.opening-opening.ensures.value in
    let i = c.args.number - (length c.opening-opening.result.now + 1 + 184 + 1) - 1 in
    record {
      is =
          c.told_line.ensures.text
          ∙ sym (entry-at c.args.self.now c.args.number i c.told.result
          (omega (arith, values, c.if-number-count.false, c.if-number-count-2.false))
          (omega (arith, c.if-number-count.false, c.if-number-count-2.false, c.if-number-count-3.true, ap length c.entries-entries.ensures.value))
          c.told.ensures.owner c.told.ensures.entry);
      short = grind (arith, common_steps);
    }

pub returns-else-number-count-3-clause-piece : goal.returns-else-number-count-3-clause-piece
returns-else-number-count-3-clause-piece c =
    let values = ap length c.opening-opening.ensures.value in
    let entries = ap length c.entries-entries.ensures.value in
    record {
      is =
          c.end.ensures.is
          ∙ sym (end-at c.args.self.now c.args.number
          (omega (arith, values, entries, c.if-number-count-3.false, c.requires.within, pieces-count c.args.self.now)));
      short = grind (arith, common_steps);
    }

pub returns-then-number-count-3-clause-fits : goal.returns-then-number-count-3-clause-fits
returns-then-number-count-3-clause-fits c =
    let values = ap length c.opening-opening.ensures.value in
    let r = c.args.self.now in
    let i = c.args.number - (length c.opening-opening.result.now + 1 + 184 + 1) - 1 in
    record {
      value = λ k d is low. absurd (omega (arith, is, low, values, c.if-number-cells.false));
      entry =
          λ k d is low. fits-here r.entries i k d c.told.result.entry (omega (arith, is, values)) low c.told.ensures.entry c.told_line.ensures.fits;
    }

pub overflow_add-cells : goal.overflow_add-cells
overflow_add-cells c = grind (arith, common_steps)

pub overflow_add-count : goal.overflow_add-count
overflow_add-count c = grind (arith, common_steps)

pub overflow_add-count-2 : goal.overflow_add-count-2
overflow_add-count-2 c = grind (arith, common_steps)

pub overflow_sub-number : goal.overflow_sub-number
overflow_sub-number c = grind (arith, common_steps)

pub offset_bounds-opening-number : goal.offset_bounds-opening-number
offset_bounds-opening-number c = grind (arith, common_steps)

pub bounds-opening-number : goal.bounds-opening-number
bounds-opening-number c = grind (arith, common_steps)

pub overflow_sub-number-then-number-count-2 : goal.overflow_sub-number-then-number-count-2
overflow_sub-number-then-number-count-2 c = grind (arith, common_steps)

pub overflow_add-count-else-number-count-2 : goal.overflow_add-count-else-number-count-2
overflow_add-count-else-number-count-2 c = grind (arith, common_steps)

pub overflow_add-count-else-number-count-2-2 : goal.overflow_add-count-else-number-count-2-2
overflow_add-count-else-number-count-2-2 c = grind (arith, common_steps)

pub overflow_sub-number-then-number-count-3-2 : goal.overflow_sub-number-then-number-count-3-2
overflow_sub-number-then-number-count-3-2 c = grind (arith, common_steps)

pub returns-then-number-eq0-clause-piece : goal.returns-then-number-eq0-clause-piece
returns-then-number-eq0-clause-piece c = grind (arith, common_steps)

pub returns-then-number-eq0-clause-fits : goal.returns-then-number-eq0-clause-fits
returns-then-number-eq0-clause-fits c = grind (arith, common_steps)

pub returns-then-number-cells-2-clause-fits : goal.returns-then-number-cells-2-clause-fits
returns-then-number-cells-2-clause-fits c = grind (arith, common_steps)

pub returns-then-number-count-2-clause-fits : goal.returns-then-number-count-2-clause-fits
returns-then-number-count-2-clause-fits c = grind (arith, common_steps)

pub returns-else-number-count-3-clause-fits : goal.returns-else-number-count-3-clause-fits
returns-else-number-count-3-clause-fits c = grind (arith, common_steps)
