use Rattle.std.proofs.Common.{◌≡◌, ℕ, drop, length}
use Rattle.network.specs.Room.{HasRoomFor, Sends, Wiring}
use Rattle.control.specs.HomeEffect.{home_messages, home_moved}
use Rattle.control.specs.Homes.{IsBelow, NamesBelow}
use Rattle.control.proofs.home_acts.perform_all.Given as goal

abbrev pub invariant-loop-action : goal.invariant-loop-action
invariant-loop-action l = record {
  links : length l.wires.traffic.links ≡ length l.fn.wires.traffic.links;
  flags : length l.home.sharers ≡ length l.fn.home.sharers;
  named : (n : ℕ) → NamesBelow n l.fn.home → IsBelow l.from n → NamesBelow n l.home;
  home : home_moved l.from l.value (drop l.action-index l.actions) l.home ≡ home_moved l.from l.value l.actions l.fn.home;
  sends : (new : Wiring) → Sends (home_messages l.from l.value (drop l.action-index l.actions) l.home) l.wires new
      → Sends (home_messages l.from l.value l.actions l.fn.home) l.fn.wires new;
  room : HasRoomFor (home_messages l.from l.value (drop l.action-index l.actions) l.home) l.wires.room;
}
