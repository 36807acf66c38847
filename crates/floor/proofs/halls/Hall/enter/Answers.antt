use Rattle.std.proofs.Common.{◌<◌, ◌∙◌, ap, length, subst, sym, arith}
use Rattle.record.specs.View.{RecordingView}
use Rattle.std.proofs.lemmas.Grind.{common_steps}
use Rattle.floor.specs.SeatCalling.{IsMoment}
use Rattle.floor.specs.inner.Keeping.{IsKeptUp}
use Rattle.floor.proofs.Entering.{kept_more, fits_more}
use Rattle.floor.proofs.SeatCalling.{are_tied, found, told}
use Rattle.floor.proofs.Recounting.{level_behind, shared_behind}
use Rattle.floor.proofs.halls.Hall.enter.Goals as goal
use Rattle.floor.proofs.halls.Hall.enter.Given.{Over}
use Rattle.floor.proofs.halls.Hall.enter.Goals.{After-push_reserved}

-- the hall keeps up
kept : (g : Over) (c : After-push_reserved g) →
    IsKeptUp g.F.Naming.floor c.advance.new.world c.see_made-seen.new.self c.advance.new.recording c.push_reserved.new.self.items c.or-self-inside.result
kept g c =
    let i = c.self.inside in
    kept_more g.F.Naming.floor i.world c.advance.new.world i.watch _ i.recording c.advance.new.recording i.owners.items _ i.violation _
    c.args.step c.in-Ok.made c.seat.inside.number
    (length c.entries.result.now) c.see_made-seen.result
    c.self.invariant.0
    c.seat.invariant.within
    (grind (arith, common_steps))
    c.in-Ok.ensures.ok
    c.see_made-seen.ensures.history
    c.see_made-seen.ensures.seen
    (grind (arith, common_steps))
    (ap length c.entries.ensures.value)
    (grind (arith, common_steps))

-- what it finds is a moment
moment : (g : Over) (c : After-push_reserved g) → IsMoment g.F.Naming.floor c.args.seat.now c.args.self.now.entries c.args.self.now.owners
moment g c =
    let i = c.self.inside in
    found g.F.Naming.floor i.world i.watch i.recording i.owners.items i.violation c.seat.inside.number c.seat.inside.receipts.items
    c.args.self.now c.args.seat.now
    c.self.invariant.0
    c.self.invariant.1.within
    (told i.token.me c.seat.inside.token.me i.recording.entries i.owners.items g.F.Naming.floor.seats c.seat.inside.number
    c.seat.inside.receipts.items c.self.invariant.1.keeps c.seat.invariant.sits c.add_entry.ensures.history)
    c.self.view_is
    c.seat.view_is

pub invariant_of-self-2 : goal.invariant_of-self-2
invariant_of-self-2 g c =
    let h = c.self.invariant.1 in (
      kept g (goal.at.invariant_of-self-2 g c).After-push_reserved,
      record {
        capacity_is = h.capacity_is;
        seats_is = h.seats_is;
        some = h.some;
        few = h.few;
        shared = shared_behind g.F.Naming.floor.seats c.self.inside.seats c.self.inside.world c.advance.new.world _ _ _ c.args.step c.in-Ok.made _
            c.self.inside.shares.items _ h.seats_is c.block.ensures c.in-Ok.ensures.ok h.shared c.recount.ensures.there c.recount.ensures.absent;
        within = fits_more c.self.inside.recording c.advance.new.recording c.args.self.now.entries _ c.seat.inside.number g.F.Naming.floor.capacity
            c.in-Ok.ensures.ok.recorded (ap (λ s. s.entries) c.self.view_is) c.requires.room;
        table_is = h.table_is;
        one = h.one;
        token_is = (let added = c.add_entry.ensures.added in grind (arith, common_steps, added.table));
        keeps = (let added = c.add_entry.ensures.added in grind (arith, common_steps, added.hall_has));
      },
    )

pub returns-clause-ok : goal.returns-clause-ok
returns-clause-ok g c = record {
  moment = moment g (goal.at.returns-clause-ok g c).After-push_reserved;
  own = c.requires.yours;
  room = c.requires.room;
  number = grind (arith, common_steps);
  entry = grind (arith, common_steps);
  entries = grind (arith, common_steps);
  owners = grind (arith, common_steps);
  violation = (kept g (goal.at.returns-clause-ok g c).After-push_reserved).first;
  added = grind (arith, common_steps);
}

pub invariant_of-self : goal.invariant_of-self
invariant_of-self g c = grind (arith, common_steps)

pub invariant_of-seat : goal.invariant_of-seat
invariant_of-seat g c = grind (arith, common_steps)

pub returns-in-Err-clause-else_memory : goal.returns-in-Err-clause-else_memory
returns-in-Err-clause-else_memory g c = grind (arith, common_steps)

pub returns-in-Err-clause-ok : goal.returns-in-Err-clause-ok
returns-in-Err-clause-ok g c = grind (arith, common_steps)

pub returns-in-Err-clause-err : goal.returns-in-Err-clause-err
returns-in-Err-clause-err g c = grind (arith, common_steps)

pub invariant_of-self-in_default-advance : goal.invariant_of-self-in_default-advance
invariant_of-self-in_default-advance g c = grind (arith, common_steps)

pub invariant_of-seat-in_default-advance : goal.invariant_of-seat-in_default-advance
invariant_of-seat-in_default-advance g c = grind (arith, common_steps)

pub returns-in_default-advance-clause-else_memory : goal.returns-in_default-advance-clause-else_memory
returns-in_default-advance-clause-else_memory g c = grind (arith, common_steps)

pub returns-in_default-advance-clause-ok : goal.returns-in_default-advance-clause-ok
returns-in_default-advance-clause-ok g c = grind (arith, common_steps)

pub returns-in_default-advance-clause-err : goal.returns-in_default-advance-clause-err
returns-in_default-advance-clause-err g c = grind (arith, common_steps)

pub invariant_of-seat-2 : goal.invariant_of-seat-2
invariant_of-seat-2 g c =
    let added = c.add_entry.ensures.added in
    grind (arith, common_steps, added.seat_has, added.table)

pub returns-clause-else_memory : goal.returns-clause-else_memory
returns-clause-else_memory g c = grind (arith, common_steps)

pub returns-clause-err : goal.returns-clause-err
returns-clause-err g c = grind (arith, common_steps)

pub returns-clause-moment : goal.returns-clause-moment
returns-clause-moment g c = moment g (goal.at.returns-clause-moment g c).After-push_reserved

pub add_entry-requires : goal.add_entry-requires
add_entry-requires g c =
    let i = c.self.inside in
    let h = c.self.invariant.1 in
    are_tied g.F.Naming.floor i.log.shared.table_id i.token c.seat.inside.token i.recording.entries i.owners.items c.seat.inside.number
    c.seat.inside.receipts.items h.table_is h.one h.token_is h.keeps c.seat.invariant.token_is c.seat.invariant.sits

pub advance-requires : goal.advance-requires
advance-requires g c =
    subst (λ n. c.seat.inside.number < n) (sym (ap (λ (r : RecordingView). r.seats) c.self.invariant.0.recorded_is)) c.seat.invariant.within

pub recount-requires-clause-size : goal.recount-requires-clause-size
recount-requires-clause-size g c = (grind (arith, common_steps), grind (arith, common_steps))

pub recount-requires-clause-count : goal.recount-requires-clause-count
recount-requires-clause-count g c = c.self.invariant.1.shared.count ∙ sym c.self.invariant.1.seats_is

pub recount-requires-clause-level : goal.recount-requires-clause-level
recount-requires-clause-level g c =
    level_behind g.F.Naming.floor.seats c.self.inside.world c.advance.new.world _ _ _ c.args.step c.in-Ok.made c.self.inside.shares.items
    c.in-Ok.ensures.ok c.self.invariant.1.shared
