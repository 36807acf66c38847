use Rattle.std.proofs.Common.{◌≡◌, ◌+◌, ◌<◌, length, map, slice_get, Some, ap, subst, ◌∙◌, arith, rules}
use Rattle.std.proofs.lemmas.Grind.{common_steps}
use Rattle.std.proofs.lemmas.List.{length-map}
use Rattle.std.proofs.lemmas.Option.{slice_get-get_or, slice_get_within}
use Rattle.cursors.specs.Cursors.{Progress, progress, tree_left}
use Rattle.cursors.specs.Stock.{Within, stock, wants}
use Rattle.cursors.specs.inner.Parts.{count_at, holding, parts_of, place_of}
use Rattle.scenario.specs.Taking.{offers, offers_of_all}
use Rattle.scenario.specs.Tree.{trees_of}
use Rattle.cursors.proofs.Cursors.{map-left, parts, parts-Begun, parts-row}
use Rattle.scenario.proofs.Failing.{match-map}
use Rattle.cursors.proofs.Going.{found-in-use, goes-behind, goes-part, height-at, none-in-use, offered-behind, part-wanted, rest-wanted, some-same}
use Rattle.scenario.proofs.Items.{get-map}
use Rattle.cursors.proofs.Leading.{same-set}
use Rattle.cursors.proofs.Stock.{adds-one, wants-at}
use Rattle.cursors.proofs.Wholes.{map-set}
use Rattle.cursors.proofs.part.taking.+taking_from_parts.Goals as goal

pub take_from-go_on-requires : goal.take_from-go_on-requires
take_from-go_on-requires g t c =
    let is = c.in-Err.ensures.err ∙ ap (λ ts. length (offers_of_all (trees_of ts)) + c.in-Err.further) (map-left c.in_use.result.now) in
    offered-behind c.args.part.now _ c.in_use.ensures.parts c.args.at c.in-Err.further c.requires is

pub take_from-returns-in-Err-clause-moves : goal.take_from-returns-in-Err-clause-moves
take_from-returns-in-Err-clause-moves g t c =
    let is = c.in-Err.ensures.err ∙ ap (λ ts. length (offers_of_all (trees_of ts)) + c.in-Err.further) (map-left c.in_use.result.now) in
    let low = offered-behind c.args.part.now _ c.in_use.ensures.parts c.args.at c.in-Err.further c.requires is in
    match-map c.go_on.result
    (λ _. goes-behind c.args.part.now _ c.in_use.ensures.parts c.args.at c.in-Err.further (progress c.go_on.new.part) low is) (λ h. h) c.go_on.ensures.moves

pub take_from-take_from_part-requires : goal.take_from-take_from_part-requires
take_from-take_from_part-requires g t c κs within =
    let there = found-in-use c.in_use.result.now (parts_of c.args.part.now) (count_at (place_of c.args.part.now)) c.args.at
    c.in-Ok.offer.child c.in-Ok.offer.at c.in_use.ensures.parts c.in-Ok.ensures.ok in
    let high = height-at (parts_of c.args.part.now) c.in-Ok.offer.child there.0 there.1 in
    let low = there.5 in
    (grind (arith, common_steps, high, low), (search rules, (search rules, (there.0, there.1, there.3))))

pub take_from-returns-in-Ok-clause-moves : goal.take_from-returns-in-Ok-clause-moves
take_from-returns-in-Ok-clause-moves g t c =
    let there = found-in-use c.in_use.result.now (parts_of c.args.part.now) (count_at (place_of c.args.part.now)) c.args.at
    c.in-Ok.offer.child c.in-Ok.offer.at c.in_use.ensures.parts c.in-Ok.ensures.ok in
    match-map c.take_from_part.result
    (λ _. goes-part c.args.part.now c.take_from_part.new.part c.args.at c.in-Ok.offer.child c.in-Ok.offer.at _ c.take_from_part.ensures.place there)
    (λ h. h) c.take_from_part.ensures.moves

pub take_from_part-index_mut-requires : goal.take_from_part-index_mut-requires
take_from_part-index_mut-requires g t c =
    let within = slice_get_within (parts_of c.args.part.now) c.args.number c.requires.0 c.requires.1 in
    grind (arith, common_steps, parts, length-map, within)

pub take_from_part-unreachable-requires : goal.take_from_part-unreachable-requires
take_from_part-unreachable-requires g t c = none-in-use c.args.part.now _ c.args.number c.requires.0 c.in-Fresh.is c.requires.1

pub take_from_part-take_from-requires : goal.take_from_part-take_from-requires
take_from_part-take_from-requires g t c κs within =
    let items = c.in-Begun.parts.items in
    let ps = parts_of c.args.part.now in
    let number = c.args.number in
    let inside = slice_get_within ps number c.requires.0 c.requires.1 in
    let short : number < length items = grind (arith, common_steps, parts, length-map, inside) in
    let old = c.index_mut.result.now in
    let at : slice_get items number ≡ Some old = slice_get-get_or items number old short ∙ ap Some (search rules) in
    let own = ap parts_of c.in-Begun.is ∙ parts-Begun c.in-Begun._place c.in-Begun.parts in
    let first = ap (λ qs. slice_get qs number) own ∙ get-map progress items number old at in
    let high = height-at ps number (progress old) first in
    let is_old = some-same c.requires.0 (progress old) ps number c.requires.1 first in
    let low = subst (λ (x : Progress). c.args.at < length (offers (tree_left x))) is_old c.requires.2 in
    grind (arith, common_steps, high, low)

pub take_from_part-returns-clause-moves : goal.take_from_part-returns-clause-moves
take_from_part-returns-clause-moves g t c =
    match-map c.take_from.result
    (λ _ h. (
      progress c.index_mut.result.now,
      progress c.take_from.new.part,
      (let items = c.in-Begun.parts.items in
          let inside = slice_get_within (parts_of c.args.part.now) c.args.number c.requires.0 c.requires.1 in
          let within : c.args.number < length items = grind (arith, common_steps, parts, length-map, inside) in
          let old = c.index_mut.result.now in
          let at : slice_get items c.args.number ≡ Some old = slice_get-get_or items c.args.number old within ∙ ap Some (search rules) in
          ap (λ qs. slice_get qs c.args.number) (ap parts_of c.in-Begun.is ∙ parts-Begun c.in-Begun._place c.in-Begun.parts)
          ∙ get-map progress items c.args.number old at),
      grind (arith, common_steps, parts, map-set),
      h,
    ))
    (λ h.
    let items = c.in-Begun.parts.items in
    let inside = slice_get_within (parts_of c.args.part.now) c.args.number c.requires.0 c.requires.1 in
    let within : c.args.number < length items = grind (arith, common_steps, parts, length-map, inside) in
    let old = c.index_mut.result.now in
    let at : slice_get items c.args.number ≡ Some old = slice_get-get_or items c.args.number old within ∙ ap Some (search rules) in
    let same = same-set progress items c.args.number old c.take_from.new.part at h in
    grind (arith, common_steps, parts-row, same))
    c.take_from.ensures.moves

pub take_from_part-unreachable-unreachable : goal.take_from_part-unreachable-unreachable
take_from_part-unreachable-unreachable g t c = grind (arith, common_steps)

pub take_from-returns-in-Ok-clause-held : goal.take_from-returns-in-Ok-clause-held
take_from-returns-in-Ok-clause-held g t c most was wanted =
    let old = c.args.part.now in
    let number = c.in-Ok.offer.child in
    let there = found-in-use c.in_use.result.now (parts_of old) (count_at (place_of old)) c.args.at
    number c.in-Ok.offer.at c.in_use.ensures.parts c.in-Ok.ensures.ok in
    c.take_from_part.ensures.held most was (part-wanted old number most there.2 wanted)

pub take_from-returns-in-Err-clause-held : goal.take_from-returns-in-Err-clause-held
take_from-returns-in-Err-clause-held g t c most was wanted = c.go_on.ensures.held most was (rest-wanted c.args.part.now most wanted)

pub take_from_part-returns-clause-held : goal.take_from_part-returns-clause-held
take_from_part-returns-clause-held g t c most was wanted =
    let items = c.in-Begun.parts.items in
    let number = c.args.number in
    let inside = slice_get_within (parts_of c.args.part.now) number c.requires.0 c.requires.1 in
    let within : number < length items = grind (arith, common_steps, parts, length-map, inside) in
    let old = c.index_mut.result.now in
    let at : slice_get items number ≡ Some old = slice_get-get_or items number old within ∙ ap Some (search rules) in
    let own = ap parts_of c.in-Begun.is ∙ parts-Begun c.in-Begun._place c.in-Begun.parts in
    let first = ap (λ qs. slice_get qs number) own ∙ get-map progress items number old at in
    let wanted' = subst (λ s. Within s most) (wants-at (parts_of c.args.part.now) number (progress old) first) wanted in
    let before : Within (holding (map stock items)) most = grind (arith, common_steps, parts, was) in
    let all = adds-one stock items number old c.take_from.new.part (wants (progress old)) at c.take_from.ensures.held most before wanted' in
    grind (arith, common_steps, parts, all)
