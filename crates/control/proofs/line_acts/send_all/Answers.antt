use Rattle.std.proofs.Common.{◌≡◌, ◌+◌, ◌++◌, arith, drop, slice_index_or, subst, sym, List, []}
use Rattle.std.proofs.lemmas.Grind.{common_steps}
use Rattle.network.specs.declared.message.Message.{Message}
use Rattle.network.specs.Room.{HasRoomFor, Sends}
use Rattle.network.proofs.Sending.{room-front, room-left, sends-append, sends-nothing}
use Rattle.cache_table.specs.declared.actions.CacheAction.{CacheAction}
use Rattle.cache_table.specs.declared.actions.CacheAction.TheVariants.{GetS}
use Rattle.control.specs.LineEffect.{line_message, line_messages}
use Rattle.control.proofs.LineSends.{messages-front}
use Rattle.control.proofs.line_acts.send_all.Goals as goal

pub send-requires : goal.send-requires
send-requires c =
    room-front _ _ c.loop-action.wires.room
    (subst (λ (ms : List Message). HasRoomFor ms c.loop-action.wires.room)
    (messages-front c.args.cache c.args.value c.args.to c.args.actions.now c.loop-action.action-index GetS (omega arith)) c.loop-action.invariant.room)

pub loop-action-preserved : goal.loop-action-preserved
loop-action-preserved c =
    let a : CacheAction = slice_index_or c.args.actions.now c.loop-action.action-index GetS in
    let one : List Message = line_message c.args.cache c.args.value c.args.to a in
    let rest : List Message = line_messages c.args.cache c.args.value c.args.to (drop (c.loop-action.action-index + 1) c.args.actions.now) in
    let front : line_messages c.args.cache c.args.value c.args.to (drop c.loop-action.action-index c.args.actions.now) ≡ one ++ rest =
    messages-front c.args.cache c.args.value c.args.to c.args.actions.now c.loop-action.action-index GetS (omega arith) in
    record {
      sends = λ new left.
          c.loop-action.invariant.sends new
          (subst (λ (ms : List Message). Sends ms c.loop-action.wires new) (sym front)
          (sends-append one rest c.loop-action.wires c.send.new.wires new c.send.ensures left));
      room =
          room-left one rest c.loop-action.wires.room c.send.new.wires.room
          (subst (λ (ms : List Message). HasRoomFor ms c.loop-action.wires.room) front c.loop-action.invariant.room) c.send.ensures.room;
    }

pub returns : goal.returns
returns c =
    let none : line_messages c.args.cache c.args.value c.args.to (drop c.loop-action.action-index c.args.actions.now) ≡ [] = grind (arith, common_steps) in
    c.loop-action.invariant.sends c.loop-action.wires
    (subst (λ (ms : List Message). Sends ms c.loop-action.wires c.loop-action.wires) (sym none) (sends-nothing c.loop-action.wires))
