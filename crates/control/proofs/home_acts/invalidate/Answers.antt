use Rattle.std.proofs.Common.{◌≡◌, ◌<◌, ◌+◌, ◌++◌, ◌∙◌, sym, subst, arith, length, drop, List, [], true}
use Rattle.std.proofs.lemmas.Grind.{common_steps}
use Rattle.network.specs.declared.message.Message.{Message}
use Rattle.network.specs.Room.{HasRoomFor, Sends}
use Rattle.network.proofs.Sending.{links-sends, room-front, room-left, sends-append, sends-nothing}
use Rattle.control.specs.HomeEffect.{invalidation, invalidations}
use Rattle.control.proofs.HomeSends.{flag-within, invalidations-first, invalidations-none}
use Rattle.control.proofs.home_acts.invalidate.Goals as goal

pub loop-from-preserved : goal.loop-from-preserved
loop-from-preserved c =
    let at = c.in-Some.cache.0 in
    let one : List Message = invalidation c.args.requestor c.in-Some.cache true in
    let rest : List Message = invalidations c.args.requestor (at + 1) (drop (at + 1) c.args.sharers.now) in
    let front : invalidations c.args.requestor c.loop-from.from (drop c.loop-from.from c.args.sharers.now) ≡ one ++ rest =
    invalidations-first c.args.requestor c.args.sharers.now c.loop-from.from at c.in-Some.ensures.some in
    let within : at < length c.args.sharers.now = flag-within c.args.sharers.now at c.in-Some.ensures.some.set in
    record {
      counted = c.loop-from.invariant.counted;
      few = omega (arith, within, c.loop-from.invariant.counted);
      links = links-sends one c.loop-from.wires c.invalidate_one.new.wires c.invalidate_one.ensures ∙ c.loop-from.invariant.links;
      sends = λ new left.
          c.loop-from.invariant.sends new
          (subst (λ (ms : List Message). Sends ms c.loop-from.wires new) (sym front)
          (sends-append one rest c.loop-from.wires c.invalidate_one.new.wires new c.invalidate_one.ensures left));
      room =
          room-left one rest c.loop-from.wires.room c.invalidate_one.new.wires.room
          (subst (λ (ms : List Message). HasRoomFor ms c.loop-from.wires.room) front c.loop-from.invariant.room) c.invalidate_one.ensures.room;
    }

pub invalidate_one-requires-clause-room : goal.invalidate_one-requires-clause-room
invalidate_one-requires-clause-room c =
    room-front _ _ c.loop-from.wires.room
    (subst (λ (ms : List Message). HasRoomFor ms c.loop-from.wires.room)
    (invalidations-first c.args.requestor c.args.sharers.now c.loop-from.from c.in-Some.cache.0 c.in-Some.ensures.some) c.loop-from.invariant.room)

pub returns-in_default : goal.returns-in_default
returns-in_default c =
    let none : invalidations c.args.requestor c.loop-from.from (drop c.loop-from.from c.args.sharers.now) ≡ [] =
    invalidations-none c.args.requestor c.args.sharers.now c.loop-from.from (omega (arith, c.loop-from.invariant.few, c.loop-from.invariant.counted))
    c.in_default.ensures.none in
    c.loop-from.invariant.sends c.loop-from.wires
    (subst (λ (ms : List Message). Sends ms c.loop-from.wires c.loop-from.wires) (sym none) (sends-nothing c.loop-from.wires))

pub returns : goal.returns
returns c =
    let none : invalidations c.args.requestor c.loop-from.from (drop c.loop-from.from c.args.sharers.now) ≡ [] = grind (arith, common_steps) in
    c.loop-from.invariant.sends c.loop-from.wires
    (subst (λ (ms : List Message). Sends ms c.loop-from.wires c.loop-from.wires) (sym none) (sends-nothing c.loop-from.wires))
