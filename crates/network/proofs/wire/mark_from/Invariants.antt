use Rattle.std.proofs.Common.{◌≡◌, ◌≤◌}
use Rattle.std.specs.Prelude.{length}
use Rattle.std.specs.Vec.{vec_capacity}
use Rattle.network.specs.inner.Links.{held_count, remarked_from}
use Rattle.network.proofs.Written.{written}
use Rattle.network.proofs.wire.mark_from.Given as goal

abbrev pub invariant-loop-index : goal.invariant-loop-index
invariant-loop-index g l = record {
  sent : l.marked.items ≡ written (remarked_from l.from (g.K.Marker.told l.marker) l.fn.marked.items) l.fn.marked.items l.index;
  held : l.held ≡ held_count l.marked.items;
  count : length l.marked.items ≡ length l.fn.marked.items;
  behind : l.from ≤ l.index;
  room : vec_capacity l.marked ≡ vec_capacity l.fn.marked;
}
