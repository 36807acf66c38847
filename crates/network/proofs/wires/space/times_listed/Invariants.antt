use Rattle.std.proofs.Common.{◌≡◌, ◌≤◌, ◌+◌, drop}
use Rattle.network.specs.Room.{times}
use Rattle.network.proofs.wires.space.times_listed.Given as goal

abbrev pub invariant-loop-link : goal.invariant-loop-link
invariant-loop-link l = record {
  rest : l.count + times l.cache.0 (drop l.link-index l.links) ≡ times l.cache.0 l.links;
  few : l.count ≤ l.link-index;
}
