use Rattle.std.proofs.Common.{arith, ap}
use Rattle.floor.proofs.Ties.{deals}
use Rattle.floor.proofs.tokens.deal_seat.Goals as goal

pub split_seat-requires : goal.split_seat-requires
split_seat-requires c =
    let r = c.requires in
    (r.table, omega (arith, r.one), deals c.args.hall.now.id c.args.hall.now.me.0 (ap (λ m. m.0.keeps) r.keeps) (ap (λ m. m.0.entries) r.keeps))
