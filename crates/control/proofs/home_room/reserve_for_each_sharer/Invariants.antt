use Rattle.std.proofs.Common.{◌≡◌, ◌≢◌, ◌≤◌, ◌<◌, ◌-◌, ℕ, [], false, true, length}
use Rattle.network.specs.Room.{UsesRoomFor}
use Rattle.control.specs.HomeEvents.{owns}
use Rattle.control.specs.Sharing.{shares}
use Rattle.control.specs.inner.HomeCounting.{HasRoomOnLink}
use Rattle.control.proofs.home_room.reserve_for_each_sharer.Given as goal

abbrev pub invariant-loop-next : goal.invariant-loop-next
invariant-loop-next l = record {
  counted : l.caches ≡ length l.home.sharers;
  few : l.next ≤ l.caches;
  traffic : l.wires.traffic ≡ l.fn.wires.traffic;
  marks : l.wires.marks ≡ l.fn.wires.marks;
  links : (k : ℕ) → k < l.next → owns l.home.owner (record { 0 = k }) ≡ false → k ≢ l.from.0 → shares l.home.sharers k ≡ true →
      HasRoomOnLink k l.from l.actions l.home l.wires.room;
  kept : UsesRoomFor [] l.fn.wires.room l.wires.room;
}

abbrev pub decreases-loop-next : goal.decreases-loop-next
decreases-loop-next l = l.caches - l.next
