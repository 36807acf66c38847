use Rattle.std.proofs.Common.{drop}
use Rattle.network.specs.Room.{HasRoomFor, Sends, Wiring}
use Rattle.control.specs.LineEffect.{line_messages}
use Rattle.control.proofs.line_acts.send_all.Given as goal

abbrev pub invariant-loop-action : goal.invariant-loop-action
invariant-loop-action l = record {
  sends : (new : Wiring) → Sends (line_messages l.cache l.value l.to (drop l.action-index l.actions)) l.wires new
      → Sends (line_messages l.cache l.value l.to l.actions) l.fn.wires new;
  room : HasRoomFor (line_messages l.cache l.value l.to (drop l.action-index l.actions)) l.wires.room;
}
