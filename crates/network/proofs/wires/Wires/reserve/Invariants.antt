use Rattle.std.proofs.Common.{◌≡◌, ◌≤◌, ◌<◌, ℕ, [], take, slice_index}
use Rattle.network.specs.Room.{UsesRoomFor, times}
use Rattle.network.proofs.wires.Wires.reserve.Given as goal

abbrev pub invariant-loop-link : goal.invariant-loop-link
invariant-loop-link l = record {
  traffic : l.self.traffic ≡ l.fn.self.traffic;
  marks : l.self.marks ≡ l.fn.self.marks;
  requests : l.requests ≤ l.self.room.requests;
  responses : l.responses ≤ l.self.room.responses;
  room : UsesRoomFor [] l.fn.self.room l.self.room;
  links : (k : ℕ) → 0 < times k (take l.link-index l.links) → times k l.links ≤ slice_index l.self.room.links k;
}
