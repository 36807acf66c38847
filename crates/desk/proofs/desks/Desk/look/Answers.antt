use Rattle.std.proofs.lemmas.Grind.{common_steps}
use Rattle.std.proofs.Common.{rules, sym, subst, length, map, arith}
use Rattle.desk.specs.inner.Keeping.{IsDeskSeat, is_claimed, is_posted}
use Rattle.desk.proofs.Lists.{long_same}
use Rattle.desk.proofs.Seating.{looked_kept}
use Rattle.desk.proofs.desks.Desk.look.Goals as goal

pub invariant_of-seat : goal.invariant_of-seat
invariant_of-seat g c =
    let i = c.seat.inside in
    let long = long_same (λ n. n.cell) c.get_at.new.notes.items i.notes.items c.get_at.ensures.cells in
    subst (λ n. IsDeskSeat i.token.me n i.told (map is_claimed i.stages.items) (map is_posted i.stages.items)
    (map (λ n. n.known) c.get_at.new.notes.items)) (sym long)
    (looked_kept (λ r. r.now) c.get_at.result i.token.me (length i.notes.items) i.told (map is_claimed i.stages.items) (map is_posted i.stages.items)
    (map (λ n. n.known) i.notes.items) (map (λ n. n.known) c.get_at.new.notes.items) c.args.number
    c.seat.invariant
    (search rules)
    c.get_at.ensures.value)

pub len-requires : goal.len-requires
len-requires g c κs = search rules

pub returns-then-place-len : goal.returns-then-place-len
returns-then-place-len g c = grind (arith, common_steps)

pub get_at-requires-clause-same : goal.get_at-requires-clause-same
get_at-requires-clause-same g c = grind (arith, common_steps)

pub get_at-requires-clause-within : goal.get_at-requires-clause-within
get_at-requires-clause-within g c = grind (arith, common_steps)

pub returns : goal.returns
returns g c = grind (arith, common_steps)
