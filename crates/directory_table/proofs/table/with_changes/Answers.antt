use Rattle.std.proofs.Common.{◌≡◌, ◌∙◌, ap, arith}
use Rattle.std.proofs.lemmas.Grind.{common_steps}
use Rattle.directory_table.specs.Table.{DirectoryTableView, laid_over}
use Rattle.directory_table.proofs.LaidOver.{laid-protocol}
use Rattle.directory_table.proofs.table.with_changes.Goals as goal

pub loop-change-init : goal.loop-change-init
loop-change-init c = grind (arith, common_steps)

pub offset_bounds-changes-change-index : goal.offset_bounds-changes-change-index
offset_bounds-changes-change-index c = grind (arith, common_steps)

pub returns-clause-table : goal.returns-clause-table
returns-clause-table c = grind (arith, common_steps)

pub returns-clause-protocol : goal.returns-clause-protocol
returns-clause-protocol c =
    let e : c.loop-change.changed ≡ laid_over c.args.changes.now c.args.table = grind (arith, common_steps) in
    ap (λ (t : DirectoryTableView). t.protocol) e ∙ laid-protocol c.args.changes.now c.args.table
