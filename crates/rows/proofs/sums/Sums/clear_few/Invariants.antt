use Rattle.std.proofs.Common.{◌≡◌, length}
use Rattle.rows.proofs.sums.Sums.clear_few.Given as goal

abbrev pub invariant-loop : goal.invariant-loop
invariant-loop l = length l.self ≡ length l.fn.self
