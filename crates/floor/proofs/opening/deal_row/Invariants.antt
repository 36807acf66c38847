use Rattle.std.proofs.Common.{◌≡◌, ◌≤◌, [], map, vec_len, vec_capacity}
use Rattle.std.specs.List.{range_with_len}
use Rattle.floor.specs.Turning.{new_seat}
use Rattle.floor.specs.inner.Tokens.{keeper}
use Rattle.floor.proofs.opening.deal_row.Given as goal

abbrev pub invariant-loop-number : goal.invariant-loop-number
invariant-loop-number g l = record {
  row : l.row.items ≡ map new_seat (range_with_len 0 l.number);
  count : vec_len l.row ≡ l.number;
  room : l.seats ≤ vec_capacity l.row;
  table : l.token.table_id ≡ l.log.shared.table_id;
  dealt : l.token.me ≡ (keeper [] [] l.number, []);
}
