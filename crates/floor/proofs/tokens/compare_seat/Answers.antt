use Rattle.std.proofs.Common.{arith, ap, ◌∙◌}
use mathlib.Core.Option.{none}
use Rattle.floor.proofs.Ties.{spares, sits, compares, stands}
use Rattle.floor.proofs.tokens.compare_seat.Goals as goal

pub split_seat-spare-requires : goal.split_seat-spare-requires
split_seat-spare-requires c = let r = c.requires in (r.table, omega (arith, r.one), spares c.args.hall.now.id c.args.hall.now.me.0)

pub join_seat-requires : goal.join_seat-requires
join_seat-requires c =
    let r = c.requires in
    let s = c.split_seat-spare.ensures in
    let same = c.replace-token.ensures.value in (
      s.0 ∙ r.table,
      ap (λ t. t.table_id) same ∙ r.same,
      ap (λ t. t.me.1) same ∙ ap (λ m. m.1) r.sits,
      omega (arith, r.one),
      sits c.split_seat-spare.new.seat.id c.replace-token.result.id c.split_seat-spare.new.seat.me.0 c.replace-token.result.me.0
          (ap (λ t. t.me.0.sits) same ∙ ap (λ m. m.0.sits) r.sits),
    )

pub load-requires : goal.load-requires
load-requires c =
    let r = c.requires in
    let s = c.split_seat-spare.ensures in
    let j = c.join_seat.ensures in
    let same = c.replace-token.ensures.value in (
      j.0 ∙ (s.0 ∙ r.table),
      omega (arith, r.one),
      compares c.args.log.now.shared.table_id.slots c.join_seat.new.seat.id c.join_seat.new.seat.me 0 0 none
          (ap (λ m. m.0.keeps) j.2 ∙ (ap (λ m. m.0.keeps) s.2 ∙ ap (λ m. m.0.keeps) r.keeps))
          (ap (λ m. m.0.sits) j.2 ∙ (ap (λ t. t.me.0.sits) same ∙ ap (λ m. m.0.sits) r.sits)),
    )

pub split_seat-token-requires : goal.split_seat-token-requires
split_seat-token-requires c =
    let r = c.requires in
    let s = c.split_seat-spare.ensures in
    let j = c.join_seat.ensures in
    let x = c.load.ensures in
    let same = c.replace-token.ensures.value in (
      x.0 ∙ (j.0 ∙ (s.0 ∙ r.table)),
      omega (arith, r.one),
      stands c.load.new.seat.id c.load.new.seat.me.0
          (ap (λ m. m.0.keeps) (x.2.0 ∙ j.2) ∙ (ap (λ m. m.0.keeps) s.2 ∙ ap (λ m. m.0.keeps) r.keeps))
          (ap (λ m. m.0.sits) (x.2.0 ∙ j.2) ∙ (ap (λ t. t.me.0.sits) same ∙ ap (λ m. m.0.sits) r.sits)),
    )
