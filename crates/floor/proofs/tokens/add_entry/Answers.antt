use Rattle.std.proofs.Common.{◌≡◌, ◌++◌, ◌∷◌, [], length, refl, arith, ap, sym, ◌∙◌, eqb}
use prog.Atomic.{either}
use Rattle.floor.proofs.Ties.{spares, sits, adds, stands, added}
use Rattle.floor.specs.inner.Tokens.{keeper, sitting}
use Rattle.floor.proofs.tokens.add_entry.Goals as goal
use Rattle.floor.proofs.tokens.add_entry.Goals.{After-drop-seat}

pub split_seat-spare-requires : goal.split_seat-spare-requires
split_seat-spare-requires c = let r = c.requires in (r.table, omega (arith, r.one), spares c.args.hall.now.id c.args.hall.now.me.0)

pub join_seat-requires : goal.join_seat-requires
join_seat-requires c =
    let r = c.requires in
    let s = c.split_seat-spare.ensures in
    let same = c.replace-token.ensures.value in (
      s.0 ∙ r.table,
      ap (λ t. t.table_id) same ∙ r.same,
      ap (λ t. t.me.1) same ∙ ap (λ m. m.1) r.sits,
      omega (arith, r.one),
      sits c.split_seat-spare.new.seat.id c.replace-token.result.id c.split_seat-spare.new.seat.me.0 c.replace-token.result.me.0
          (ap (λ t. t.me.0.sits) same ∙ ap (λ m. m.0.sits) r.sits),
    )

pub compare_exchange_with-requires : goal.compare_exchange_with-requires
compare_exchange_with-requires c =
    let r = c.requires in
    let s = c.split_seat-spare.ensures in
    let j = c.join_seat.ensures in
    let same = c.replace-token.ensures.value in (
      j.0 ∙ (s.0 ∙ r.table),
      omega (arith, r.one),
      adds c.args.log.now.shared.table_id.slots c.join_seat.new.seat.id c.join_seat.new.seat.me 0 0 (λ n. either (eqb n 0) 0 n) c.args.entry.now
          (ap (λ m. m.0.keeps) j.2 ∙ (ap (λ m. m.0.keeps) s.2 ∙ ap (λ m. m.0.keeps) r.keeps))
          (ap (λ m. m.0.sits) j.2 ∙ (ap (λ t. t.me.0.sits) same ∙ ap (λ m. m.0.sits) r.sits)),
    )

pub split_seat-token-requires : goal.split_seat-token-requires
split_seat-token-requires c =
    let r = c.requires in
    let s = c.split_seat-spare.ensures in
    let j = c.join_seat.ensures in
    let x = c.compare_exchange_with.ensures in
    let grew = x.2.0 c.args.entry.now refl in (
      x.0 ∙ (j.0 ∙ (s.0 ∙ r.table)),
      omega (arith, r.one),
      stands c.compare_exchange_with.new.seat.id c.compare_exchange_with.new.seat.me.0 (ap (λ v. v.keeps) grew) (ap (λ v. v.sits) grew),
    )

left_behind : (c : After-drop-seat) →
    (c.split_seat-token.new.seat.me ≡ (
      keeper (c.args.hall.now.me.0.entries ++ c.args.entry.now ∷ [])
          (c.args.hall.now.me.0.owners ++ c.args.seat.now.me.0.number ∷ []) c.args.hall.now.me.0.next,
      [],
    ))
    × (c.split_seat-token.result.me ≡ (
      sitting c.args.seat.now.me.0.number
          (c.args.seat.now.me.0.made ++ (length c.args.hall.now.me.0.entries, c.args.entry.now) ∷ []),
      [],
    ))
left_behind c =
    let x = c.compare_exchange_with.ensures.2 in
    let k = c.split_seat-token.ensures in
    added c.args.hall.now.me c.args.seat.now.me c.replace-token.result.me c.split_seat-spare.new.seat.me c.join_seat.new.seat.me
    c.compare_exchange_with.new.seat.me c.split_seat-token.new.seat.me c.split_seat-token.result.me
    c.args.entry.now c.requires.keeps (ap (λ t. t.me) c.replace-token.ensures.value) c.split_seat-spare.ensures.2 c.join_seat.ensures.2
    (x.0 c.args.entry.now refl) x.1 k.2 k.4

pub returns-clause-added : goal.returns-clause-added
returns-clause-added c =
    let k = c.split_seat-token.ensures in
    let back = c.compare_exchange_with.ensures.0 ∙ (c.join_seat.ensures.0 ∙ c.split_seat-spare.ensures.0) in
    let has = left_behind (goal.at.returns-clause-added c).After-drop-seat in
    record { hall_has = has.0; seat_has = has.1; table = (k.0 ∙ back, k.3 ∙ (back ∙ (c.requires.table ∙ sym c.requires.same))) }
