use Rattle.std.proofs.Common.{arith}
use Rattle.std.proofs.lemmas.Grind.{common_steps}
use Rattle.floor.proofs.SeatCalling.{are_tied, found, told}
use Rattle.floor.proofs.halls.Hall.compare.Goals as goal

pub invariant_of-self : goal.invariant_of-self
invariant_of-self g c = grind (arith, common_steps)

pub invariant_of-seat : goal.invariant_of-seat
invariant_of-seat g c = grind (arith, common_steps)

pub compare_seat-requires : goal.compare_seat-requires
compare_seat-requires g c =
    let i = c.self.inside in
    let h = c.self.invariant.1 in
    are_tied g.F.Naming.floor i.log.shared.table_id i.token c.seat.inside.token i.recording.entries i.owners.items c.seat.inside.number
    c.seat.inside.receipts.items h.table_is h.one h.token_is h.keeps c.seat.invariant.token_is c.seat.invariant.sits

pub returns : goal.returns
returns g c =
    let i = c.self.inside in
    record {
      moment = found g.F.Naming.floor i.world i.watch i.recording i.owners.items i.violation c.seat.inside.number c.seat.inside.receipts.items
          c.args.self.now c.args.seat.now
          c.self.invariant.0
          c.self.invariant.1.within
          (told i.token.me c.seat.inside.token.me i.recording.entries i.owners.items g.F.Naming.floor.seats c.seat.inside.number
          c.seat.inside.receipts.items c.self.invariant.1.keeps c.seat.invariant.sits c.compare_seat.ensures.history)
          c.self.view_is
          c.seat.view_is;
      hall_stays = grind (arith, common_steps);
      seat_stays = grind (arith, common_steps);
    }
