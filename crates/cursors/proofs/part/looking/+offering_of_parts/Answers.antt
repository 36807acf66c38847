use Rattle.std.proofs.Common.{◌++◌, Some, map, refl, ap, sym, ◌∙◌, arith, rules}
use Rattle.std.proofs.lemmas.Grind.{common_steps}
use Rattle.std.proofs.lemmas.List.{append-nil, drop_all}
use Rattle.std.proofs.lemmas.Option.{slice_get-get_or}
use Rattle.cursors.specs.Cursors.{progress}
use Rattle.cursors.specs.inner.Parts.{all_left, behind}
use Rattle.scenario.specs.Taking.{offers, offers_of_all}
use Rattle.cursors.proofs.Cursors.{cursor-appends, cursor-stops, highest-get, offers-more}
use Rattle.scenario.proofs.Failing.{on_ok-failed}
use Rattle.scenario.proofs.Fronts.{front-front, front-whole}
use Rattle.cursors.proofs.part.looking.+offering_of_parts.Goals as goal

pub offers_of_parts-offers_of_part-requires : goal.offers_of_parts-offers_of_part-requires
offers_of_parts-offers_of_part-requires g t c κs within =
    let at = slice_get-get_or c.args.parts.now c.loop-part.part-index c.part-item.result c.loop-part-test.true ∙ ap Some (sym c.part-item.is) in
    let low = highest-get progress c.args.parts.now c.loop-part.part-index c.part-item.result at in
    grind (arith, common_steps, low)

pub offers_of_part-returns-in_ok-offers_behind-clause-ok : goal.offers_of_part-returns-in_ok-offers_behind-clause-ok
offers_of_part-returns-in_ok-offers_behind-clause-ok g t c =
    let end = sym c.parts_may_end.ensures ∙ c.if-parts_may_end.true in
    c.in_ok-offers_behind.ensures.ok
    ∙ (ap (λ at. c.offers_of_parts.new.out.items ++ offers (behind at)) c.place.ensures
    ∙ cursor-appends c.args.part.now _ c.in_use-parts.ensures.parts c.args.out.now.items _ c.in_ok-offers_of_parts.ensures.ok end)

pub offers_of_part-returns-else-parts_may_end-clause-ok : goal.offers_of_part-returns-else-parts_may_end-clause-ok
offers_of_part-returns-else-parts_may_end-clause-ok g t c =
    let more = sym c.parts_may_end.ensures ∙ c.if-parts_may_end.false in
    cursor-stops c.args.part.now _ c.in_use-parts.ensures.parts c.args.out.now.items _ c.in_ok-offers_of_parts.ensures.ok more

pub offers_of_part-offers_of_parts-requires : goal.offers_of_part-offers_of_parts-requires
offers_of_part-offers_of_parts-requires g t c κs within = let low = c.in_use-parts.ensures.lower in (omega (arith, low), search rules)

pub offers_of_part-returns-in_err-offers_of_parts-clause-ok : goal.offers_of_part-returns-in_err-offers_of_parts-clause-ok
offers_of_part-returns-in_err-offers_of_parts-clause-ok g t c = on_ok-failed _ _ c.from_residual.ensures.0

pub offers_of_part-returns-in_err-offers_of_parts-clause-front : goal.offers_of_part-returns-in_err-offers_of_parts-clause-front
offers_of_part-returns-in_err-offers_of_parts-clause-front g t c = c.offers_of_parts.ensures.front

pub offers_of_part-returns-in_err-offers_behind-clause-ok : goal.offers_of_part-returns-in_err-offers_behind-clause-ok
offers_of_part-returns-in_err-offers_behind-clause-ok g t c = on_ok-failed _ _ c.from_residual-in_err-offers_behind.ensures.0

pub offers_of_part-returns-in_err-offers_behind-clause-front : goal.offers_of_part-returns-in_err-offers_behind-clause-front
offers_of_part-returns-in_err-offers_behind-clause-front g t c =
    front-front c.args.out.now.items c.offers_of_parts.new.out.items c.offers_behind.new.out.items c.offers_of_parts.ensures.front c.offers_behind.ensures.front

pub offers_of_part-returns-in_ok-offers_behind-clause-front : goal.offers_of_part-returns-in_ok-offers_behind-clause-front
offers_of_part-returns-in_ok-offers_behind-clause-front g t c =
    front-front c.args.out.now.items c.offers_of_parts.new.out.items c.offers_behind.new.out.items c.offers_of_parts.ensures.front c.offers_behind.ensures.front

pub offers_of_part-returns-else-parts_may_end-clause-front : goal.offers_of_part-returns-else-parts_may_end-clause-front
offers_of_part-returns-else-parts_may_end-clause-front g t c = c.offers_of_parts.ensures.front

pub offers_of_parts-loop-part-init : goal.offers_of_parts-loop-part-init
offers_of_parts-loop-part-init g t c = (refl, front-whole c.args.out.now.items)

pub offers_of_parts-loop-part-smaller : goal.offers_of_parts-loop-part-smaller
offers_of_parts-loop-part-smaller g t c = omega arith

pub offers_of_parts-returns-in_err-offers_of_part-clause-ok : goal.offers_of_parts-returns-in_err-offers_of_part-clause-ok
offers_of_parts-returns-in_err-offers_of_part-clause-ok g t c = on_ok-failed _ _ c.from_residual.ensures.0

pub offers_of_parts-returns-in_err-offers_of_part-clause-front : goal.offers_of_parts-returns-in_err-offers_of_part-clause-front
offers_of_parts-returns-in_err-offers_of_part-clause-front g t c =
    front-front c.args.out.now.items c.loop-part.out.items c.offers_of_part.new.out.items c.loop-part.invariant.1 c.offers_of_part.ensures.front

pub offers_of_parts-loop-part-preserved : goal.offers_of_parts-loop-part-preserved
offers_of_parts-loop-part-preserved g t c =
    let at = slice_get-get_or c.args.parts.now c.loop-part.part-index c.part-item.result c.loop-part-test.true ∙ ap Some (sym c.part-item.is) in
    let all = offers-more c.args.parts.now c.loop-part.part-index c.part-item.result c.loop-part.out.items c.offers_of_part.new.out.items at
    c.in_ok-offers_of_part.ensures.ok in (
      all ∙ c.loop-part.invariant.0,
      front-front c.args.out.now.items c.loop-part.out.items c.offers_of_part.new.out.items c.loop-part.invariant.1 c.offers_of_part.ensures.front,
    )

pub offers_of_parts-returns-clause-ok : goal.offers_of_parts-returns-clause-ok
offers_of_parts-returns-clause-ok g t c =
    let all = drop_all c.loop-part.part-index c.args.parts.now c.loop-part-test.false in
    sym (append-nil c.loop-part.out.items)
    ∙ (ap (λ ps. c.loop-part.out.items ++ offers_of_all (all_left (map progress ps))) (sym all) ∙ c.loop-part.invariant.0)

pub offers_of_parts-returns-clause-front : goal.offers_of_parts-returns-clause-front
offers_of_parts-returns-clause-front g t c = c.loop-part.invariant.1
