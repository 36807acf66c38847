use Rattle.std.proofs.Common.{◌≡◌, length}
use Rattle.lanes.proofs.lanes.making.empty_rows.Given as goal

abbrev pub invariant-loop : goal.invariant-loop
invariant-loop l = length l.rows.items ≡ l.counter
