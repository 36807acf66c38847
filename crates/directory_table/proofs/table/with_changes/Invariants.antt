use Rattle.std.proofs.Common.{◌≡◌, drop}
use Rattle.directory_table.specs.Table.{laid_over}
use Rattle.directory_table.proofs.table.with_changes.Given as goal

-- what is left to lay over makes the table that is to come
abbrev pub invariant-loop-change : goal.invariant-loop-change
invariant-loop-change l = laid_over (drop l.change-index l.changes) l.changed ≡ laid_over l.changes l.fn.table
