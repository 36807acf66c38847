use Rattle.std.proofs.Common.{◌≡◌, ◌≤◌, length}
use Rattle.schedule.proofs.places.empty_rows.Given as goal

abbrev pub invariant-loop-number : goal.invariant-loop-number
invariant-loop-number l = (length l.rows.items ≡ l.number-end) × (l.number-end ≤ 64)

abbrev pub invariant-loop : goal.invariant-loop
invariant-loop l = (length l.rows.items ≡ l.counter) × (l.counter ≤ 64)
