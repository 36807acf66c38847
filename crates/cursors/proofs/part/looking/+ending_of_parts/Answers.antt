use Rattle.std.proofs.Common.{Some, map, refl, ap, sym, ◌∙◌, arith, rules}
use Rattle.std.proofs.lemmas.Grind.{common_steps}
use Rattle.std.proofs.lemmas.List.{drop_all}
use Rattle.std.proofs.lemmas.Option.{slice_get-get_or}
use Rattle.cursors.specs.Cursors.{progress}
use Rattle.cursors.specs.inner.Parts.{all_left, behind}
use Rattle.scenario.specs.Taking.{all_end, ends}
use Rattle.cursors.proofs.Cursors.{cursor-ends-then, cursor-ends-else, ends-more, ends-not, highest-get}
use Rattle.cursors.proofs.part.looking.+ending_of_parts.Goals as goal

pub part_may_end-returns-then-parts_may_end : goal.part_may_end-returns-then-parts_may_end
part_may_end-returns-then-parts_may_end g t c =
    (c.behind_may_end.ensures ∙ ap (λ at. ends (behind at)) c.place.ensures)
    ∙ sym (cursor-ends-then c.args.part.now _ c.in_use.ensures.parts (sym c.parts_may_end.ensures ∙ c.if-parts_may_end.true))

pub part_may_end-returns-else-parts_may_end : goal.part_may_end-returns-else-parts_may_end
part_may_end-returns-else-parts_may_end g t c =
    c.if-parts_may_end.false
    ∙ sym (cursor-ends-else c.args.part.now _ c.in_use.ensures.parts (sym c.parts_may_end.ensures ∙ c.if-parts_may_end.false))

pub parts_may_end-part_may_end-requires : goal.parts_may_end-part_may_end-requires
parts_may_end-part_may_end-requires g t c κs within =
    let at = slice_get-get_or c.args.parts.now c.loop-part.part-index c.part-item.result c.loop-part-test.true ∙ ap Some (sym c.part-item.is) in
    let low = highest-get progress c.args.parts.now c.loop-part.part-index c.part-item.result at in
    grind (arith, common_steps, low)

pub part_may_end-parts_may_end-requires : goal.part_may_end-parts_may_end-requires
part_may_end-parts_may_end-requires g t c κs within = let low = c.in_use.ensures.lower in (omega (arith, low), search rules)

pub parts_may_end-loop-part-init : goal.parts_may_end-loop-part-init
parts_may_end-loop-part-init g t c = refl

pub parts_may_end-loop-part-smaller : goal.parts_may_end-loop-part-smaller
parts_may_end-loop-part-smaller g t c = omega arith

pub parts_may_end-returns-then-not-part_may_end : goal.parts_may_end-returns-then-not-part_may_end
parts_may_end-returns-then-not-part_may_end g t c =
    let at = slice_get-get_or c.args.parts.now c.loop-part.part-index c.part-item.result c.loop-part-test.true ∙ ap Some (sym c.part-item.is) in
    let more = sym c.part_may_end.ensures ∙ c.if-not-part_may_end.true in
    sym (sym c.loop-part.invariant ∙ ends-not c.args.parts.now c.loop-part.part-index c.part-item.result at more)

pub parts_may_end-loop-part-preserved : goal.parts_may_end-loop-part-preserved
parts_may_end-loop-part-preserved g t c =
    let at = slice_get-get_or c.args.parts.now c.loop-part.part-index c.part-item.result c.loop-part-test.true ∙ ap Some (sym c.part-item.is) in
    let end = sym c.part_may_end.ensures ∙ c.if-not-part_may_end.false in
    sym (ends-more c.args.parts.now c.loop-part.part-index c.part-item.result at end) ∙ c.loop-part.invariant

pub parts_may_end-returns : goal.parts_may_end-returns
parts_may_end-returns g t c =
    let all = drop_all c.loop-part.part-index c.args.parts.now c.loop-part-test.false in
    sym (ap (λ ps. all_end (all_left (map progress ps))) all) ∙ c.loop-part.invariant
