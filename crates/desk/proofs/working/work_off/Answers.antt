use Rattle.std.proofs.Common.{◌++◌, ◌∷◌, [], ap, sym, ◌∙◌, arith, length, length-append, subst}
use Rattle.desk.specs.Seats.{Knows, numbers_of, with_post}
use Rattle.desk.proofs.Lists.{ok_of}
use Rattle.desk.proofs.Worked.{works_more, works_told, room}
use Rattle.desk.proofs.working.work_off.Goals as goal

pub overflow_add-count : goal.overflow_add-count
overflow_add-count g c =
    let w = c.loop-number.invariant.works in
    let l = ap (λ l. length l) w.2.claimed in
    let desk = ap (λ d. numbers_of d) c.loop-number.invariant.desk in
    let more = room c.loop-number.seat c.claim.new.seat c.in-Some.number c.seats_claim_in_order.ensures c.in-Some.ensures in
    omega (arith, more, desk, c.desks_are_within_limits.ensures.few, l, w.1, length-append c.args.seat.now.claimed w.0)

pub loop-number-smaller : goal.loop-number-smaller
loop-number-smaller g c =
    let posted = (ok_of _ _ c.post.result (sym c.is_err.ensures.value ∙ c.if-is_err.false) c.post.ensures).1 in
    let l = ap (λ s. length s.claimed) (posted.posts ∙ ap (λ s. with_post s c.in-Some.number c.in-Ok.made) c.in-Some.ensures.claims) in
    let desk = ap (λ d. numbers_of d) c.loop-number.invariant.desk in
    let more = room c.loop-number.seat c.claim.new.seat c.in-Some.number c.seats_claim_in_order.ensures c.in-Some.ensures in
    omega (arith, more, desk, l, length-append c.loop-number.seat.claimed (c.in-Some.number ∷ []))

pub loop-number-preserved : goal.loop-number-preserved
loop-number-preserved g c =
    let i = c.loop-number.invariant in
    let w = i.works in
    let claimed = c.in-Some.ensures.claims in
    let posted = (ok_of _ _ c.post.result (sym c.is_err.ensures.value ∙ c.if-is_err.false) c.post.ensures).1 in
    let p = posted.posts ∙ ap (λ s. with_post s c.in-Some.number c.in-Ok.made) claimed in
    record {
      desk = ap (λ s. s.desk) p ∙ i.desk;
      plan = c.result.ensures.plan ∙ i.plan;
      works = (
        w.0 ++ c.in-Some.number ∷ [],
        omega (arith, w.1, length-append w.0 (c.in-Some.number ∷ [])),
        works_more c.args.seat.now c.loop-number.seat c.post.new.seat w.0 c.in-Some.number c.in-Ok.made w.2 p posted.posted
            (λ q k. posted.first q (subst (λ v. Knows v c.in-Some.number q) (sym claimed) k)),
      );
    }

pub returns : goal.returns
returns g c =
    let w = c.loop-number.invariant.works in
    let told = c.in_default.ensures in
    record {
      numbers = w.0;
      count_is = w.1;
      works = works_told c.args.seat.now c.loop-number.seat c.claim.new.seat w.0 w.2 told;
      told = ap (λ s. s.told) told;
    }
