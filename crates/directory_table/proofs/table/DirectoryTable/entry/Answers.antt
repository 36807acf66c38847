use Rattle.std.proofs.Common.{subst}
use Rattle.base.specs.declared.controller.entry.CellEntry.TheVariants.{Blank}
use Rattle.base.proofs.Cells.{cell-default}
use Rattle.directory_table.specs.Keeping.{IsDirectoryTable}
use Rattle.directory_table.specs.Table.{DirectoryTableView, IsWhole}
use Rattle.directory_table.proofs.table.DirectoryTable.entry.Goals as goal

pub returns-clause-entry : goal.returns-clause-entry
returns-clause-entry c =
    rw (← c.self.view_is, ← c.number.ensures.number, ← c.number-2.ensures.number)
    (cell-default 4 7 c.self.inside.cells c.number.result c.number-2.result c.index-row-number.result Blank
    c.self.invariant.whole c.number.ensures.small c.number-2.ensures.small)

pub returns-clause-table : goal.returns-clause-table
returns-clause-table c = subst (λ (t : DirectoryTableView). IsDirectoryTable t.protocol t.cells) c.self.view_is c.self.invariant

pub returns-clause-whole : goal.returns-clause-whole
returns-clause-whole c = subst (λ (t : DirectoryTableView). IsWhole t.cells) c.self.view_is c.self.invariant.whole
