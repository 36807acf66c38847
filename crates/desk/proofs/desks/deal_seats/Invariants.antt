use Rattle.std.proofs.Common.{◌≡◌, ◌≤◌, ◌-◌, [], replicate, vec_len, vec_capacity}
use Rattle.desk.specs.inner.Drawing.{fresh}
use Rattle.desk.specs.Seats.{new_seat, numbers_of}
use Rattle.desk.proofs.desks.deal_seats.Given as goal

abbrev pub invariant-loop : goal.invariant-loop
invariant-loop g l = record {
  row : l.row.items ≡ replicate l.counter (new_seat l.desk.id);
  count : vec_len l.row ≡ l.counter;
  room : l.desk.seats ≤ vec_capacity l.row;
  table : l.token.table_id ≡ l.desk.id.table;
  me : l.token.me ≡ (fresh (l.desk.seats - l.counter) (numbers_of l.desk.id), []);
}
