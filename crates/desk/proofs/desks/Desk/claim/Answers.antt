use Rattle.std.proofs.lemmas.Grind.{common_steps}
use Rattle.std.proofs.Common.{rules, ap, ◌∙◌, sym, arith, length, map, false, get_or, slice_set}
use Rattle.once_cell.specs.Once.{cell_name}
use Rattle.desk.specs.declared.seats.NumberStage.TheVariants.{Claimed}
use Rattle.desk.specs.inner.Keeping.{is_claimed, is_posted}
use Rattle.desk.proofs.Lists.{as_long}
use Rattle.desk.proofs.Seating.{claimed_kept, claim_seen, posts_claimed, told_again, unposted}
use Rattle.desk.proofs.desks.Desk.claim.Goals as goal

pub invariant_of-seat : goal.invariant_of-seat
invariant_of-seat g c =
    let i = c.seat.inside in
    let same = ap (λ s. s.desk.cells) c.seat.view_is ∙ (ap (λ d. d.cells) c.requires ∙ sym (ap (λ d. d.id.cells) c.self.view_is)) in
    let long = as_long (λ n. n.cell) cell_name i.notes.items c.self.inside.cells.items same in
    let drew = c.in-Some.ensures.draw in
    claimed_kept i.token.me c.draw_number.new.token.me (length i.notes.items) i.told i.stages.items (map (λ n. n.known) i.notes.items)
    c.in-Some.number c.seat.invariant c.if-seat.false
    (omega (arith, long, drew.within, c.len.ensures, c.self.inside.cells.ok.0))
    drew.rises
    drew.draws

pub returns-in-Some : goal.returns-in-Some
returns-in-Some g c =
    let i = c.seat.inside in
    let k = c.in-Some.number in
    let drew = c.in-Some.ensures.draw in
    let posts = map is_posted i.stages.items in
    let none = unposted i.token.me (length i.notes.items) i.told (map is_claimed i.stages.items) posts
    (map (λ n. n.known) i.notes.items) k c.seat.invariant drew.rises in
    let kept = posts_claimed i.stages.items k none in
    record {
      claims = claim_seen i.token.table_id c.draw_number.new.token.table_id (map (λ n. n.cell) i.notes.items) i.token.me.0.drawn
          c.draw_number.new.token.me.0.drawn i.told posts (map is_posted (slice_set i.stages.items k Claimed))
          (map (λ n. n.known) i.notes.items) k c.args.seat.now c.seat.view_is c.draw_number.ensures.table
          (ap (λ m. m.0.drawn) drew.draws) kept;
      on = sym (ap (λ s. s.told) c.seat.view_is) ∙ c.if-seat.false;
      within = grind (arith, common_steps);
      next = grind (arith, common_steps);
      unposted = λ p. absurd (cc (p, ap (λ l. get_or l k false) kept, none));
    }

pub returns-then-seat : goal.returns-then-seat
returns-then-seat g c =
    let again = told_again c.args.seat.now (sym (ap (λ s. s.told) c.seat.view_is) ∙ c.if-seat.true) in grind (arith, common_steps, again)

pub len-requires : goal.len-requires
len-requires g c κs = search rules

pub draw_number-requires : goal.draw_number-requires
draw_number-requires g c = record {
  of_word = record { table = grind (arith, common_steps); one = c.self.invariant.one; free = grind (arith, common_steps) };
  count_is = grind (arith, common_steps);
  given = grind (arith, common_steps);
  part = grind (arith, common_steps);
  small = grind (arith, common_steps);
  on = grind (arith, common_steps);
}

pub index_mut-requires : goal.index_mut-requires
index_mut-requires g c = grind (arith, common_steps)

pub overflow_cast-result : goal.overflow_cast-result
overflow_cast-result g c = grind (arith, common_steps)

pub invariant_of-seat-in-None : goal.invariant_of-seat-in-None
invariant_of-seat-in-None g c = grind (arith, common_steps)

pub returns-in-None : goal.returns-in-None
returns-in-None g c = grind (arith, common_steps)
