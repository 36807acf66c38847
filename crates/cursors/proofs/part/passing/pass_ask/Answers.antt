use Rattle.std.proofs.Common.{◌≡◌, ◌<◌, Some, length, slice_get, drop, ap, sym, ◌∙◌, arith}
use Rattle.std.proofs.lemmas.Grind.{common_steps}
use Rattle.std.proofs.lemmas.Option.{slice_get-get_or}
use Rattle.cursors.specs.Cursors.{InSeq, Nothing, first_part, progress}
use Rattle.cursors.specs.inner.Parts.{parts_of}
use Rattle.scenario.specs.Tree.{plain_all}
use Rattle.scenario.proofs.Fronts.{rest-whole}
use Rattle.cursors.proofs.Passing.{moves-ask}
use Rattle.cursors.proofs.part.passing.pass_ask.Goals as goal

pub returns-clause-passed : goal.returns-clause-passed
returns-clause-passed g c done =
    let row = c.args.row.now in
    let first = c.index-row-0.result in
    let some : 0 < length row = grind (arith, common_steps) in
    let at : slice_get row 0 ≡ Some first = slice_get-get_or row 0 first some ∙ ap Some (sym c.index-row-0.is) in
    let none : c.args.at ≡ 0 = grind (arith, common_steps) in
    let over = c.end_first.ensures.ended c.if-not-end_first.false in
    let now : progress c.move_to.new.self ≡ InSeq Nothing (plain_all (drop 1 row)) =
    c.move_to.ensures.place
    ∙ (ap (λ us. InSeq (first_part (parts_of c.end_first.new.part)) (plain_all us)) (rest-whole row 1)
    ∙ ap (λ p. InSeq p (plain_all (drop 1 row))) over) in
    rw (now, none) (moves-ask row first at (sym c.is_ask.ensures ∙ c.if-not-is_ask.false))
