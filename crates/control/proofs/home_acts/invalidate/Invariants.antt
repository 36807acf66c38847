use Rattle.std.proofs.Common.{◌≡◌, ◌≤◌, ◌-◌, drop, length}
use Rattle.network.specs.Room.{HasRoomFor, Sends, Wiring}
use Rattle.control.specs.HomeEffect.{invalidations}
use Rattle.control.proofs.home_acts.invalidate.Given as goal

abbrev pub invariant-loop-from : goal.invariant-loop-from
invariant-loop-from l = record {
  counted : l.caches ≡ length l.sharers;
  few : l.from ≤ l.caches;
  links : length l.wires.traffic.links ≡ length l.fn.wires.traffic.links;
  sends : (new : Wiring) → Sends (invalidations l.requestor l.from (drop l.from l.sharers)) l.wires new
      → Sends (invalidations l.requestor 0 l.sharers) l.fn.wires new;
  room : HasRoomFor (invalidations l.requestor l.from (drop l.from l.sharers)) l.wires.room;
}

abbrev pub decreases-loop-from : goal.decreases-loop-from
decreases-loop-from l = l.caches - l.from
