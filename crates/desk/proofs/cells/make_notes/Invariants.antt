use Rattle.std.proofs.Common.{◌≡◌, map, take, replicate, None}
use Rattle.once_cell.specs.Once.{cell_name}
use Rattle.desk.proofs.cells.make_notes.Given as goal

abbrev pub invariant-loop-cell : goal.invariant-loop-cell
invariant-loop-cell g l = record {
  cells : map (λ n. n.cell) l.notes.items ≡ map cell_name (take l.cell-index l.cell-items);
  known : map (λ n. n.known) l.notes.items ≡ replicate l.cell-index None;
}
