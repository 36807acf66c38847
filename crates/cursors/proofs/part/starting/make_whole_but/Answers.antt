use Rattle.std.proofs.Common.{◌≡◌, ◌<◌, length, map, slice_get, take, Some, ap, sym, ◌∙◌, arith, rules}
use Rattle.std.proofs.lemmas.Grind.{common_steps}
use Rattle.std.proofs.lemmas.List.{length-map}
use Rattle.std.proofs.lemmas.Option.{slice_get-get_or}
use Rattle.cursors.specs.Cursors.{Whole, progress}
use Rattle.cursors.specs.Stock.{stock}
use Rattle.scenario.specs.Tree.{plain}
use Rattle.scenario.proofs.Fronts.{front-whole}
use Rattle.cursors.proofs.Leading.{same-set}
use Rattle.cursors.proofs.Wholes.{put-back, whole-but, whole-more}
use Rattle.cursors.proofs.part.starting.make_whole_but.Goals as goal

pub loop-i-preserved : goal.loop-i-preserved
loop-i-preserved g c =
    let at = slice_get-get_or c.args.children.now c.loop-i.i c.index-children-i.result c.loop-i-test.true ∙ ap Some (sym c.index-children-i.is) in
    let within : c.loop-i.i < length c.loop-i.parts.items = grind (arith, common_steps) in
    let old = c.index_mut-in-loop-i.result.now in
    let here : slice_get c.loop-i.parts.items c.loop-i.i ≡ Some old = slice_get-get_or c.loop-i.parts.items c.loop-i.i old within ∙ ap Some (search rules) in (
      whole-more progress c.loop-i.parts.items c.args.children.now c.loop-i.i c.move_to.new.self c.index-children-i.result within at
          c.move_to.ensures.place c.loop-i.invariant.0,
      grind (arith, common_steps),
      same-set stock c.loop-i.parts.items c.loop-i.i old c.move_to.new.self here c.move_to.ensures.held ∙ c.loop-i.invariant.2,
    )

pub returns-clause-whole : goal.returns-clause-whole
returns-clause-whole g c =
    let old = c.args.parts.now.items in
    let begun = c.replace-begun.result in
    let there : slice_get old c.args.number ≡ Some begun = slice_get-get_or old c.args.number begun (search rules) ∙ ap Some (search rules) in
    let ss = c.args.children.now in
    let count : c.loop-i.i ≡ length ss = grind (arith, common_steps) in
    let whole : map progress (take (length (map plain ss)) c.loop-i.parts.items) ≡ map Whole (map plain ss) =
    ap (λ n. map progress (take n c.loop-i.parts.items)) (length-map ss plain ∙ sym count)
    ∙ (c.loop-i.invariant.0 ∙ ap (λ us. map Whole (map plain us)) (ap (λ n. take n ss) count ∙ front-whole ss)) in
    whole-but progress old c.loop-i.parts.items _ c.args.number begun (map plain c.args.children.now) there (search rules) whole

pub bounds-children-i : goal.bounds-children-i
bounds-children-i g c = grind (arith, common_steps)

pub index_mut-requires : goal.index_mut-requires
index_mut-requires g c = grind (arith, common_steps)

pub index_mut-requires-2 : goal.index_mut-requires-2
index_mut-requires-2 g c = grind (arith, common_steps)

pub index_mut-requires-in-loop-i : goal.index_mut-requires-in-loop-i
index_mut-requires-in-loop-i g c = grind (arith, common_steps)

pub loop-i-init : goal.loop-i-init
loop-i-init g c = grind (arith, common_steps)

pub offset_bounds-children-i : goal.offset_bounds-children-i
offset_bounds-children-i g c = grind (arith, common_steps)

pub returns-clause-count : goal.returns-clause-count
returns-clause-count g c = grind (arith, common_steps)

pub loop-i-smaller : goal.loop-i-smaller
loop-i-smaller g c = omega arith

pub returns-clause-held : goal.returns-clause-held
returns-clause-held g c =
    let old = c.args.parts.now.items in
    let begun = c.replace-begun.result in
    let there : slice_get old c.args.number ≡ Some begun = slice_get-get_or old c.args.number begun (search rules) ∙ ap Some (search rules) in
    put-back stock old c.loop-i.parts.items c.args.number begun c.replace-begun.new.dest there c.loop-i.invariant.2
