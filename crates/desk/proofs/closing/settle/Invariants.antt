use Rattle.std.proofs.Common.{◌≡◌, ◌+◌, ◌||◌, ℕ, [], All, length, vec_len}
use Rattle.desk.specs.Counting.{times}
use Rattle.desk.specs.Closing.{claims_of, any_told}
use Rattle.desk.proofs.closing.settle.Given as goal

abbrev pub invariant-loop-seat : goal.invariant-loop-seat
invariant-loop-seat g l = record {
  table : l.token.table_id ≡ l.word.shared.table_id;
  free : l.token.me.1 ≡ [];
  count : l.token.me.0.count ≡ l.word.shared.key.count;
  parts : l.token.me.0.parts + length l.seats.items ≡ length l.fn.seats.items;
  each : (x : ℕ) → times x l.token.me.0.drawn + claims_of x l.seats.items ≡ claims_of x l.fn.seats.items;
  told : (l.token.me.0.over || any_told l.seats.items) ≡ any_told l.fn.seats.items;
  these : All (λ s. (s.desk.table ≡ l.word.shared.table_id) × (length s.desk.cells ≡ l.word.shared.key.count)) l.seats.items;
}

abbrev pub decreases-loop-seat : goal.decreases-loop-seat
decreases-loop-seat g l = vec_len l.seats
