use Rattle.std.proofs.Common.{◌≡◌, ◌<◌, ◌+◌, ◌++◌, ◌∙◌, ap, sym, subst, arith, length, drop, slice_index_or, List, []}
use Rattle.std.proofs.lemmas.Grind.{common_steps}
use Rattle.network.specs.declared.message.Message.{Message}
use Rattle.network.specs.Room.{HasRoomFor, Sends}
use Rattle.network.proofs.Sending.{links-sends, room-front, room-left, sends-append, sends-nothing}
use Rattle.directory_table.specs.declared.actions.DirectoryAction.{DirectoryAction}
use Rattle.directory_table.specs.declared.actions.DirectoryAction.TheVariants.{DataReq}
use Rattle.control.specs.declared.home.Home.{Home}
use Rattle.control.specs.HomeEffect.{home_message, home_messages, home_moved, home_changed}
use Rattle.control.specs.Homes.{IsBelow, NamesBelow}
use Rattle.control.proofs.HomeSends.{moved-front, messages-front, Keeps, keeps-changed}
use Rattle.control.proofs.home_acts.perform_all.Goals as goal

pub perform-requires-clause-named : goal.perform-requires-clause-named
perform-requires-clause-named c =
    let before = c.loop-action.invariant in
    let named = c.requires.named in
    record {
      flags = subst (λ n. NamesBelow n c.loop-action.home) (sym before.flags) (before.named _ named.flags named.sender_flag);
      links = subst (λ n. NamesBelow n c.loop-action.home) (sym before.links) (before.named _ named.links named.sender_link);
      sender_flag = subst (IsBelow c.args.from) (sym before.flags) named.sender_flag;
      sender_link = subst (IsBelow c.args.from) (sym before.links) named.sender_link;
    }

pub perform-requires-clause-room : goal.perform-requires-clause-room
perform-requires-clause-room c =
    room-front _ _ c.loop-action.wires.room
    (subst (λ (ms : List Message). HasRoomFor ms c.loop-action.wires.room)
    (messages-front c.args.from c.args.value c.args.actions.now c.loop-action.action-index DataReq c.loop-action.home (omega arith))
    c.loop-action.invariant.room)

pub loop-action-preserved : goal.loop-action-preserved
loop-action-preserved c =
    let before = c.loop-action.home in
    let a : DirectoryAction = slice_index_or c.args.actions.now c.loop-action.action-index DataReq in
    let rest : List DirectoryAction = drop (c.loop-action.action-index + 1) c.args.actions.now in
    let one : List Message = home_message c.args.from a before in
    let others : List Message = home_messages c.args.from c.args.value rest (home_changed c.args.from c.args.value a before) in
    let lt : c.loop-action.action-index < length c.args.actions.now = omega arith in
    let front : home_messages c.args.from c.args.value (drop c.loop-action.action-index c.args.actions.now) before ≡ one ++ others =
    messages-front c.args.from c.args.value c.args.actions.now c.loop-action.action-index DataReq before lt in
    let changed : Keeps c.args.from before (home_changed c.args.from c.args.value a before) = keeps-changed c.args.from c.args.value a before in
    record {
      links = links-sends one c.loop-action.wires c.perform.new.wires c.perform.ensures.sent ∙ c.loop-action.invariant.links;
      flags = ap (λ (h : Home). length h.sharers) c.perform.ensures.home ∙ changed.flags ∙ c.loop-action.invariant.flags;
      named = λ n h l. subst (NamesBelow n) (sym c.perform.ensures.home) (changed.names n (c.loop-action.invariant.named n h l) l);
      home =
          ap (home_moved c.args.from c.args.value rest) c.perform.ensures.home
          ∙ sym (moved-front c.args.from c.args.value c.args.actions.now c.loop-action.action-index DataReq before lt)
          ∙ c.loop-action.invariant.home;
      sends = λ new left.
          c.loop-action.invariant.sends new
          (subst (λ (ms : List Message). Sends ms c.loop-action.wires new) (sym front)
          (sends-append one others c.loop-action.wires c.perform.new.wires new c.perform.ensures.sent
          (subst (λ (h : Home). Sends (home_messages c.args.from c.args.value rest h) c.perform.new.wires new) c.perform.ensures.home left)));
      room =
          subst (λ (h : Home). HasRoomFor (home_messages c.args.from c.args.value rest h) c.perform.new.wires.room) (sym c.perform.ensures.home)
          (room-left one others c.loop-action.wires.room c.perform.new.wires.room
          (subst (λ (ms : List Message). HasRoomFor ms c.loop-action.wires.room) front c.loop-action.invariant.room) c.perform.ensures.sent.room);
    }

pub returns-clause-sent : goal.returns-clause-sent
returns-clause-sent c =
    let none : home_messages c.args.from c.args.value (drop c.loop-action.action-index c.args.actions.now) c.loop-action.home ≡ [] =
    grind (arith, common_steps) in
    c.loop-action.invariant.sends c.loop-action.wires
    (subst (λ (ms : List Message). Sends ms c.loop-action.wires c.loop-action.wires) (sym none) (sends-nothing c.loop-action.wires))
