use Rattle.std.proofs.Common.{rules, arith}
use Rattle.std.proofs.lemmas.Grind.{common_steps}
use Rattle.desk.proofs.cells.make_notes.Goals as goal

pub len-requires : goal.len-requires
len-requires g c κs = search rules

pub with_capacity-requires : goal.with_capacity-requires
with_capacity-requires g c κs = search rules

pub branch-notes-requires : goal.branch-notes-requires
branch-notes-requires g c κs = search rules

pub from_residual-requires : goal.from_residual-requires
from_residual-requires g c κs = search rules

pub returns-in_err-notes-clause-cells : goal.returns-in_err-notes-clause-cells
returns-in_err-notes-clause-cells g c = grind (arith, common_steps)

pub returns-in_err-notes-clause-known : goal.returns-in_err-notes-clause-known
returns-in_err-notes-clause-known g c = grind (arith, common_steps)

pub deref-cell-items-requires : goal.deref-cell-items-requires
deref-cell-items-requires g c κs = search rules

pub loop-cell-init : goal.loop-cell-init
loop-cell-init g c = grind (arith, common_steps)

pub offset_bounds-cell-items-cell-index : goal.offset_bounds-cell-items-cell-index
offset_bounds-cell-items-cell-index g c = grind (arith, common_steps)

pub bounds-cell-items-cell-index : goal.bounds-cell-items-cell-index
bounds-cell-items-cell-index g c = grind (arith, common_steps)

pub note-requires : goal.note-requires
note-requires g c κs = search rules

pub push-requires : goal.push-requires
push-requires g c κs = search rules

pub branch-push-requires : goal.branch-push-requires
branch-push-requires g c κs = search rules

pub from_residual-requires-in_err-push : goal.from_residual-requires-in_err-push
from_residual-requires-in_err-push g c κs = search rules

pub drop-notes-requires : goal.drop-notes-requires
drop-notes-requires g c κs = search rules

pub returns-in_err-push-clause-cells : goal.returns-in_err-push-clause-cells
returns-in_err-push-clause-cells g c = grind (arith, common_steps)

pub returns-in_err-push-clause-known : goal.returns-in_err-push-clause-known
returns-in_err-push-clause-known g c = grind (arith, common_steps)

pub loop-cell-smaller : goal.loop-cell-smaller
loop-cell-smaller g c = grind (arith, common_steps)

pub loop-cell-preserved : goal.loop-cell-preserved
loop-cell-preserved g c = grind (arith, common_steps)

pub returns-clause-cells : goal.returns-clause-cells
returns-clause-cells g c = grind (arith, common_steps)

pub returns-clause-known : goal.returns-clause-known
returns-clause-known g c = grind (arith, common_steps)
