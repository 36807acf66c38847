use Rattle.std.proofs.Common.{◌<◌, ◌∙◌, arith, inl, inr, length, sym, true≢false}
use Rattle.std.proofs.lemmas.Grind.{common_steps}
use Rattle.std.proofs.lemmas.Bool.{cases_eq, cases_lt}
use Rattle.control.proofs.HomeSends.{flag-within}
use Rattle.control.proofs.home_room.reserve_for_each_sharer.Goals as goal

pub loop-next-preserved : goal.loop-next-preserved
loop-next-preserved c =
    let at = c.in-Some.cache.0 in
    let within : at < length c.args.home.now.sharers = flag-within c.args.home.now.sharers at c.in-Some.ensures.some.set in
    record {
      counted = c.loop-next.invariant.counted;
      few = omega (arith, within, c.loop-next.invariant.counted);
      traffic = c.reserve_link.ensures.traffic ∙ c.loop-next.invariant.traffic;
      marks = c.reserve_link.ensures.marks ∙ c.loop-next.invariant.marks;
      links = λ k lt owner other set. elim (cases_eq k at) [
        | inl e ↦ rw e (omega (arith, c.forwards_to.ensures.count, c.in_ok-reserve_link.ensures.ok))
        | inr ne ↦ elim (cases_lt k c.loop-next.next) [
          | inl before ↦ omega (arith, c.loop-next.invariant.links k before owner other set, c.reserve_link.ensures.room.links k)
          | inr after ↦ absurd (true≢false (sym set ∙ c.in-Some.ensures.some.first k after (omega (arith, lt, ne))))
        ]
      ];
      kept = record {
        requests = omega (arith, c.reserve_link.ensures.room.requests, c.loop-next.invariant.kept.requests);
        links = λ k. omega (arith, c.reserve_link.ensures.room.links k, c.loop-next.invariant.kept.links k);
        responses = omega (arith, c.reserve_link.ensures.room.responses, c.loop-next.invariant.kept.responses);
      };
    }

pub loop-next-init : goal.loop-next-init
loop-next-init c = grind (arith, common_steps)

pub overflow_add-next : goal.overflow_add-next
overflow_add-next c = grind (arith, common_steps)

pub loop-next-smaller : goal.loop-next-smaller
loop-next-smaller c = grind (arith, common_steps)
