use Rattle.std.proofs.lemmas.Grind.{common_steps}
use Rattle.std.proofs.Common.{rules, ◌≡◌, ap, ◌∙◌, sym, subst, arith, length, map, ◌<◌, ℕ, List, false, true, get_or, slice_set, Some}
use Rattle.std.proofs.lemmas.List.{get_or-set_same}
use Rattle.desk.specs.Counting.{times}
use Rattle.desk.specs.declared.seats.NumberStage.TheVariants.{Posted}
use Rattle.desk.specs.inner.Keeping.{IsDeskSeat, is_claimed, is_posted}
use Rattle.desk.proofs.Lists.{long_same}
use Rattle.desk.proofs.Seating.{posted_kept, post_seen, posts_posted, true_above}
use Rattle.desk.proofs.desks.Desk.put.Goals as goal

pub invariant_of-seat-2 : goal.invariant_of-seat-2
invariant_of-seat-2 g c =
    let i = c.seat.inside in
    let k = c.args.number in
    let there : 0 < times k i.token.me.0.drawn = subst (λ (l : List ℕ). 0 < times k l) (sym (ap (λ s. s.claimed) c.seat.view_is)) c.requires.can.0 in
    let lt : k < length i.notes.items = c.seat.invariant.below k there in
    let mine : get_or (map is_claimed i.stages.items) k false ≡ true = c.seat.invariant.claims_are k lt ∙ sym (true_above _ there) in
    let long = long_same (λ n. n.cell) c.set_at.new.notes.items i.notes.items c.set_at.ensures.cells in
    subst (λ n. IsDeskSeat i.token.me n i.told (map is_claimed (slice_set i.stages.items k Posted)) (map is_posted (slice_set i.stages.items k Posted))
    (map (λ n. n.known) c.set_at.new.notes.items))
    (sym long)
    (posted_kept i.token.me (length i.notes.items) i.told i.stages.items (map (λ n. n.known) i.notes.items)
    (map (λ n. n.known) c.set_at.new.notes.items) k c.args.made c.seat.invariant lt mine
    c.requires.made.1.numbered
    (c.set_at.ensures.set c.if-not-set_at.false ∙ ap (λ v. slice_set (map (λ n. n.known) i.notes.items) k (Some v)) c.in-Ok.ensures.ok))

pub returns : goal.returns
returns g c =
    let i = c.seat.inside in
    let k = c.args.number in
    let set = c.set_at.ensures.set c.if-not-set_at.false ∙ ap (λ v. slice_set (map (λ n. n.known) i.notes.items) k (Some v)) c.in-Ok.ensures.ok in
    let there : 0 < times k i.token.me.0.drawn = subst (λ (l : List ℕ). 0 < times k l) (sym (ap (λ s. s.claimed) c.seat.view_is)) c.requires.can.0 in
    let lt = c.seat.invariant.below k there in
    let within : k < length (map is_posted i.stages.items) = omega (arith, lt, c.seat.invariant.posts_length) in
    record {
      could = c.requires.can;
      first = grind (arith, common_steps);
      posts = post_seen i.token.table_id (map (λ n. n.cell) i.notes.items) (map (λ n. n.cell) c.set_at.new.notes.items) i.token.me.0.drawn i.told
          (map is_posted i.stages.items) (map is_posted (slice_set i.stages.items k Posted)) (map (λ n. n.known) i.notes.items)
          (map (λ n. n.known) c.set_at.new.notes.items) k c.args.made c.args.seat.now c.seat.view_is c.set_at.ensures.cells
          (posts_posted i.stages.items k) set;
      posted = ap (λ l. get_or l k false) (posts_posted i.stages.items k) ∙ get_or-set_same (map is_posted i.stages.items) k true false within;
      known = grind (arith, common_steps);
    }

pub invariant_of-posted : goal.invariant_of-posted
invariant_of-posted g c = grind (arith, common_steps)

pub new-requires : goal.new-requires
new-requires g c κs = search rules

pub set_at-requires-clause-same : goal.set_at-requires-clause-same
set_at-requires-clause-same g c = grind (arith, common_steps)

pub set_at-requires-clause-within : goal.set_at-requires-clause-within
set_at-requires-clause-within g c = grind (arith, common_steps)

pub invariant_of-seat : goal.invariant_of-seat
invariant_of-seat g c = grind (arith, common_steps)

pub index_mut-requires : goal.index_mut-requires
index_mut-requires g c = grind (arith, common_steps)

pub returns-in_default : goal.returns-in_default
returns-in_default g c = grind (arith, common_steps)

pub returns-then-not-set_at : goal.returns-then-not-set_at
returns-then-not-set_at g c = grind (arith, common_steps)
