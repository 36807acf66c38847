use Rattle.std.proofs.Common.{Some, ap, sym, ◌∙◌, arith}
use Rattle.std.proofs.lemmas.Grind.{common_steps}
use Rattle.std.proofs.lemmas.Option.{slice_get-get_or}
use Rattle.cursors.specs.Cursors.{progress}
use Rattle.cursors.specs.inner.Parts.{behind}
use Rattle.scenario.specs.Seeking.{sought}
use Rattle.scenario.specs.Taking.{offers}
use Rattle.cursors.proofs.Cursors.{highest-get, found-in-parts, passed-in-parts, sought-cursor, sought-cursor-then, sought-cursor-else}
use Rattle.cursors.proofs.part.looking.+seeking_in_parts.Goals as goal

pub seek_in_parts-seek_in_part-requires : goal.seek_in_parts-seek_in_part-requires
seek_in_parts-seek_in_part-requires g t c κs within =
    let at = slice_get-get_or c.args.parts.now c.loop-part.part-index c.part-item.result c.loop-part-test.true ∙ ap Some (sym c.part-item.is) in
    let low = highest-get progress c.args.parts.now c.loop-part.part-index c.part-item.result at in
    grind (arith, common_steps, low)

pub seek_in_part-returns-in-Ok : goal.seek_in_part-returns-in-Ok
seek_in_part-returns-in-Ok g t c =
    sym (sought-cursor c.args.part.now _ c.in_use-parts.ensures.parts c.args.at c.in-Ok.ask (sym c.seek_in_parts.ensures ∙ c.in-Ok.is))

pub seek_in_part-returns-then-not-parts_may_end : goal.seek_in_part-returns-then-not-parts_may_end
seek_in_part-returns-then-not-parts_may_end g t c =
    sym (sought-cursor-else c.args.part.now _ c.in_use-parts.ensures.parts c.args.at c.in-Err.further (sym c.seek_in_parts.ensures ∙ c.in-Err.is)
    (sym c.parts_may_end.ensures ∙ c.if-not-parts_may_end.true))

pub seek_in_part-returns-else-not-parts_may_end : goal.seek_in_part-returns-else-not-parts_may_end
seek_in_part-returns-else-not-parts_may_end g t c =
    (c.seek_behind.ensures ∙ ap (λ at. sought (offers (behind at)) c.in-Err.further) c.place.ensures)
    ∙ sym (sought-cursor-then c.args.part.now _ c.in_use-parts.ensures.parts c.args.at c.in-Err.further (sym c.seek_in_parts.ensures ∙ c.in-Err.is)
    (sym c.parts_may_end.ensures ∙ c.if-not-parts_may_end.false))

pub seek_in_parts-returns-in-Ok : goal.seek_in_parts-returns-in-Ok
seek_in_parts-returns-in-Ok g t c =
    let at = slice_get-get_or c.args.parts.now c.loop-part.part-index c.part-item.result c.loop-part-test.true ∙ ap Some (sym c.part-item.is) in
    sym (found-in-parts c.args.parts.now c.loop-part.part-index c.loop-part.further c.part-item.result c.in-Ok.ask at
    (sym c.seek_in_part.ensures ∙ c.in-Ok.is)) ∙ c.loop-part.invariant

pub seek_in_parts-loop-part-preserved : goal.seek_in_parts-loop-part-preserved
seek_in_parts-loop-part-preserved g t c =
    let at = slice_get-get_or c.args.parts.now c.loop-part.part-index c.part-item.result c.loop-part-test.true ∙ ap Some (sym c.part-item.is) in
    sym (passed-in-parts c.args.parts.now c.loop-part.part-index c.loop-part.further c.in-Err.behind c.part-item.result at
    (sym c.seek_in_part.ensures ∙ c.in-Err.is)) ∙ c.loop-part.invariant
