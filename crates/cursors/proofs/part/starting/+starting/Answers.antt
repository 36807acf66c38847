use Rattle.std.proofs.Common.{◌≡◌, suc, ◌+◌, ◌<◌, Some, drop, length, map, slice_get, refl, ap, sym, subst, ◌∙◌, arith, rules}
use Rattle.std.proofs.lemmas.Grind.{common_steps}
use Rattle.std.proofs.lemmas.List.{length-map, length-set}
use Rattle.std.proofs.lemmas.Option.{slice_get-get_or}
use Rattle.cursors.specs.Cursors.{InSeq, Nothing, first_part, progress}
use Rattle.scenario.specs.Limits.{depth, deepest}
use Rattle.cursors.specs.Stock.{Within, room, stock}
use Rattle.cursors.specs.inner.Parts.{Adds, MovesTo, holding, parts_of}
use Rattle.scenario.specs.Rests.{IsPlaceAmong}
use Rattle.scenario.specs.Taking.{offers_in_turn, offers_of_all}
use Rattle.scenario.specs.Tree as tree
use Rattle.scenario.specs.Tree.{plain, plain_all}
use Rattle.scenario.proofs.Children.{children, plain-Any, plain-Both, plain-Seq}
use Rattle.cursors.proofs.Calls.{match-failed}
use Rattle.cursors.proofs.Cursors.{parts, parts-row}
use Rattle.scenario.proofs.Failing.{match-map}
use Rattle.scenario.proofs.Fronts.{rest-whole}
use Rattle.cursors.proofs.Leading.{depth-deepest, moves-any, moves-both, moves-row, moves-turn, same-set}
use Rattle.scenario.proofs.Parting.{deeper_both, deeper_row, within_any, within_both, within_row}
use Rattle.scenario.proofs.Places.{child_at, within_child, within_turn}
use Rattle.cursors.proofs.Stock.{adds-one, all-bare, all-room, one-room, turn-bare, turn-room}
use Rattle.cursors.proofs.Wholes.{map-set}
use Rattle.cursors.proofs.part.starting.+starting.Goals as goal

pub start_both-start_part-requires : goal.start_both-start_part-requires
start_both-start_part-requires g t c κs within =
    let offer = c.place_among-offer.result in
    let child = c.index-children-offer.result in
    let ss = c.args.children.now in
    let at = child_at ss ss offer.child child refl c.place_among-offer.ensures.within c.index-children-offer.is in
    let low = depth-deepest ss offer.child child at in
    let inside = within_child ss c.args.at offer.child offer.at child at c.place_among-offer.ensures.place in
    (omega (arith, low, c.decreases), (within.0, (within.1, (c.place_among-offer.ensures.within, inside))))

pub start_row-start_part-requires : goal.start_row-start_part-requires
start_row-start_part-requires g t c κs within =
    let offer = c.place_in_turn-offer.result in
    let child = c.index-children-offer.result in
    let ss = c.args.children.now in
    let at = child_at ss ss offer.child child refl c.place_in_turn-offer.ensures.within c.index-children-offer.is in
    let low = depth-deepest ss offer.child child at in
    let inside = within_turn ss c.args.at offer.child offer.at child at c.place_in_turn-offer.ensures.place in
    (omega (arith, low, c.decreases), (within.0, (within.1, (omega arith, inside))))

pub start_turn-start_part-requires : goal.start_turn-start_part-requires
start_turn-start_part-requires g t c κs within = (omega (arith, c.decreases), (within.0, (within.1, (omega arith, c.requires.offer))))

pub start_part-start-requires : goal.start_part-start-requires
start_part-start-requires g t c κs within = (omega (arith, c.decreases), (within.0, (within.1, c.requires.offer)))

pub start_part-index_mut-requires : goal.start_part-index_mut-requires
start_part-index_mut-requires g t c = grind (arith, common_steps, parts, length-map)

pub start-start-requires : goal.start-start-requires
start-start-requires g t c κs within =
    let offer = c.place_among-offer.result in
    let child = c.index.result.now in
    let ss = c.in-Any.children.items in
    let at = child_at ss c.as_slice-in-Any.result.now offer.child child c.as_slice-in-Any.ensures.value c.place_among-offer.ensures.within c.index.ensures in
    let place = subst (λ us. IsPlaceAmong us c.args.at offer.child offer.at) c.as_slice-in-Any.ensures.value c.place_among-offer.ensures.place in
    let whole : depth (plain c.args.tree.now) ≡ 1 + deepest (plain_all ss) = ap depth (ap plain c.in-Any.is ∙ plain-Any c.in-Any.children) in
    let low = depth-deepest ss offer.child child at in
    let inside = within_child ss c.args.at offer.child offer.at child at place in
    (omega (arith, whole, low, c.decreases), (within.0, (within.1, inside)))

pub start_part-returns-clause-moves : goal.start_part-returns-clause-moves
start_part-returns-clause-moves g t c =
    let long = c.in_ok-make_room.ensures.room in
    match-map c.start.result
    (λ _ h. (parts_of c.make_room.new.part, long, (progress c.start.new.part, grind (arith, common_steps, parts, map-set), h)))
    (λ h.
    let items = c.in-Begun.parts.items in
    let within : c.args.number < length items = grind (arith, common_steps, parts, length-map) in
    let old = c.index_mut.result.now in
    let at : slice_get items c.args.number ≡ Some old = slice_get-get_or items c.args.number old within ∙ ap Some (search rules) in
    let same = same-set progress items c.args.number old c.start.new.part at h in
    grind (arith, common_steps, parts-row, same))
    c.start.ensures.moves

pub start-returns-in-Any-clause-moves : goal.start-returns-in-Any-clause-moves
start-returns-in-Any-clause-moves g t c =
    let offer = c.place_among-offer.result in
    let child = c.index.result.now in
    let ss = c.in-Any.children.items in
    let at = child_at ss c.as_slice-in-Any.result.now offer.child child c.as_slice-in-Any.ensures.value c.place_among-offer.ensures.within c.index.ensures in
    let place = subst (λ us. IsPlaceAmong us c.args.at offer.child offer.at) c.as_slice-in-Any.ensures.value c.place_among-offer.ensures.place in
    let whole = ap plain c.in-Any.is ∙ plain-Any c.in-Any.children in
    match-map c.start.result
    (λ _ h. subst (λ u. MovesTo u c.args.at (room u) (progress c.start.new.part)) (sym whole)
    (moves-any ss c.args.at offer.child offer.at child (progress c.start.new.part) at place h)) (λ h. h) c.start.ensures.moves

pub start-returns-in-Seq-clause-moves : goal.start-returns-in-Seq-clause-moves
start-returns-in-Seq-clause-moves g t c =
    let new = progress c.start_row.new.part in
    let whole = ap plain c.in-Seq.is ∙ (plain-Seq c.in-Seq.children ∙ ap (λ us. tree.Seq (plain_all us)) (sym c.as_slice.ensures.value)) in
    match-map c.start_row.result
    (λ _ h. subst (λ u. MovesTo u c.args.at (room u) new) (sym whole) h) (λ h. h) c.start_row.ensures.moves

pub start-returns-in-Both-clause-moves : goal.start-returns-in-Both-clause-moves
start-returns-in-Both-clause-moves g t c =
    let new = progress c.start_both.new.part in
    let whole = ap plain c.in-Both.is ∙ (plain-Both c.in-Both.children ∙ ap (λ us. tree.Both (plain_all us)) (sym c.as_slice-in-Both.ensures.value)) in
    match-map c.start_both.result (λ _ h. subst (λ u. MovesTo u c.args.at (room u) new) (sym whole) h) (λ h. h) c.start_both.ensures.moves

pub start_row-returns-clause-moves : goal.start_row-returns-clause-moves
start_row-returns-clause-moves g t c =
    let offer = c.place_in_turn-offer.result in
    let child = c.index-children-offer.result in
    let ss = c.args.children.now in
    let at = child_at ss ss offer.child child refl c.place_in_turn-offer.ensures.within c.index-children-offer.is in
    let b = c.in_ok-start_part.ensures.moves in
    let now : progress c.move_to.new.self ≡ InSeq (first_part (parts_of c.start_part.new.part)) (plain_all (drop (offer.child + 1) ss)) =
    c.move_to.ensures.place ∙ ap (λ us. InSeq (first_part (parts_of c.start_part.new.part)) (plain_all us)) (rest-whole ss (offer.child + 1)) in
    rw now (moves-row ss c.args.at offer.child offer.at child b.0 (parts_of c.start_part.new.part) at b.1 c.place_in_turn-offer.ensures.place b.2)

pub start_turn-returns-clause-moves : goal.start_turn-returns-clause-moves
start_turn-returns-clause-moves g t c =
    let b = c.in_ok-start_part.ensures.moves in
    rw c.move_to.ensures.place (moves-turn c.args.turns (plain c.args.child.now) c.args.at b.0 (parts_of c.start_part.new.part) b.1 b.2)

pub start_both-returns-clause-moves : goal.start_both-returns-clause-moves
start_both-returns-clause-moves g t c =
    let offer = c.place_among-offer.result in
    let child = c.index-children-offer.result in
    let ss = c.args.children.now in
    let at = child_at ss ss offer.child child refl c.place_among-offer.ensures.within c.index-children-offer.is in
    let b = c.in_ok-start_part.ensures.moves in
    rw c.move_to.ensures.place (moves-both ss c.args.at offer.child offer.at child b.0 (parts_of c.start_part.new.part)
    (parts_of c.keep_others.new.part) at b.1 c.place_among-offer.ensures.place b.2 c.keep_others.ensures.whole)

pub start-returns-in-One-clause-moves : goal.start-returns-in-One-clause-moves
start-returns-in-One-clause-moves g t c =
    let new : progress c.move_to.new.self ≡ Nothing = c.move_to.ensures.place in
    let whole = ap plain c.in-One.is in
    rw (new, whole) (refl, tt)

pub start-returns-in-Times-clause-moves : goal.start-returns-in-Times-clause-moves
start-returns-in-Times-clause-moves g t c =
    let new = progress c.start_turn.new.part in
    let whole : plain c.args.tree.now ≡ tree.Times c.in-Times.turns (plain c.deref.result.now) = grind (arith, common_steps) in
    match-map c.start_turn.result (λ _ h. subst (λ u. MovesTo u c.args.at (room u) new) (sym whole) h) (λ h. h) c.start_turn.ensures.moves

pub start-place_among-offer-requires : goal.start-place_among-offer-requires
start-place_among-offer-requires g t c =
    let inside = within_any c.args.tree.now c.in-Any.children c.in-Any.children c.args.at c.in-Any.is refl c.requires in
    subst (λ us. c.args.at < length (offers_of_all (plain_all us))) (sym c.as_slice-in-Any.ensures.value) inside

pub start-start_row-requires : goal.start-start_row-requires
start-start_row-requires g t c κs within =
    let same = sym c.as_slice.ensures.value in
    let whole = deeper_row c.args.tree.now c.in-Seq.children c.in-Seq.children c.in-Seq.is refl in
    let low = whole ∙ ap (λ us. suc (deepest (plain_all us))) same in
    let inside = within_row c.args.tree.now c.in-Seq.children c.in-Seq.children c.args.at c.in-Seq.is refl c.requires in
    (omega (arith, low, c.decreases), (within.0, (within.1, subst (λ us. c.args.at < length (offers_in_turn (plain_all us))) same inside)))

pub start-start_turn-requires : goal.start-start_turn-requires
start-start_turn-requires g t c κs within = grind (arith, common_steps, children)

pub start-start_both-requires : goal.start-start_both-requires
start-start_both-requires g t c κs within =
    let same = sym c.as_slice-in-Both.ensures.value in
    let whole = deeper_both c.args.tree.now c.in-Both.children c.in-Both.children c.in-Both.is refl in
    let low = whole ∙ ap (λ us. suc (deepest (plain_all us))) same in
    let inside = within_both c.args.tree.now c.in-Both.children c.in-Both.children c.args.at c.in-Both.is refl c.requires in
    (omega (arith, low, c.decreases), (within.0, (within.1, subst (λ us. c.args.at < length (offers_of_all (plain_all us))) same inside)))

pub start_both-returns-in_err-start_part-clause-moves : goal.start_both-returns-in_err-start_part-clause-moves
start_both-returns-in_err-start_part-clause-moves g t c = match-failed _ _ _ c.from_residual.ensures.0 c.in_err-start_part.ensures.moves

pub start_row-returns-in_err-start_part-clause-moves : goal.start_row-returns-in_err-start_part-clause-moves
start_row-returns-in_err-start_part-clause-moves g t c = match-failed _ _ _ c.from_residual.ensures.0 c.in_err-start_part.ensures.moves

pub start_turn-returns-in_err-start_part-clause-moves : goal.start_turn-returns-in_err-start_part-clause-moves
start_turn-returns-in_err-start_part-clause-moves g t c = match-failed _ _ _ c.from_residual.ensures.0 c.in_err-start_part.ensures.moves

pub start_both-keep_others-requires-clause-part : goal.start_both-keep_others-requires-clause-part
start_both-keep_others-requires-clause-part g t c = c.place_among-offer.ensures.within

pub start_both-keep_others-requires-clause-room : goal.start_both-keep_others-requires-clause-room
start_both-keep_others-requires-clause-room g t c =
    let b = c.in_ok-start_part.ensures.moves in
    let same = ap length b.2.1 in
    grind (arith, length-set, b.1, same)

pub start_part-unreachable-requires : goal.start_part-unreachable-requires
start_part-unreachable-requires g t c =
    let none : length (parts_of c.make_room.new.part) ≡ 0 = ap (λ p. length (parts_of p)) c.in-Fresh.is in
    omega (arith, none, c.requires.part, c.in_ok-make_room.ensures.room)

pub start_row-overflow_add-offer : goal.start_row-overflow_add-offer
start_row-overflow_add-offer g t c = grind (arith, common_steps)

pub start_row-slice_bounds-move_to-start : goal.start_row-slice_bounds-move_to-start
start_row-slice_bounds-move_to-start g t c = grind (arith, common_steps)

pub start_row-slice_bounds-move_to-count : goal.start_row-slice_bounds-move_to-count
start_row-slice_bounds-move_to-count g t c = grind (arith, common_steps)

pub start_row-slice_bounds-move_to-end : goal.start_row-slice_bounds-move_to-end
start_row-slice_bounds-move_to-end g t c = grind (arith, common_steps)

pub start_both-bounds-children-offer : goal.start_both-bounds-children-offer
start_both-bounds-children-offer g t c = grind (arith, common_steps)

pub start_both-offset_bounds-children-offer : goal.start_both-offset_bounds-children-offer
start_both-offset_bounds-children-offer g t c = grind (arith, common_steps)

pub start_row-bounds-children-offer : goal.start_row-bounds-children-offer
start_row-bounds-children-offer g t c = grind (arith, common_steps)

pub start_row-offset_bounds-children-offer : goal.start_row-offset_bounds-children-offer
start_row-offset_bounds-children-offer g t c = grind (arith, common_steps)

pub start_row-offset_bounds-children-offer-2 : goal.start_row-offset_bounds-children-offer-2
start_row-offset_bounds-children-offer-2 g t c = grind (arith, common_steps)

pub start-index-requires : goal.start-index-requires
start-index-requires g t c = grind (arith, common_steps)

pub start_part-unreachable-unreachable : goal.start_part-unreachable-unreachable
start_part-unreachable-unreachable g t c = grind (arith, common_steps)

pub start_both-place_among-offer-requires : goal.start_both-place_among-offer-requires
start_both-place_among-offer-requires g t c = c.requires

pub start_row-place_in_turn-offer-requires : goal.start_row-place_in_turn-offer-requires
start_row-place_in_turn-offer-requires g t c = c.requires

pub start-returns-in-Seq-clause-held : goal.start-returns-in-Seq-clause-held
start-returns-in-Seq-clause-held g t c =
    let whole = ap plain c.in-Seq.is ∙ (plain-Seq c.in-Seq.children ∙ ap (λ us. tree.Seq (plain_all us)) (sym c.as_slice.ensures.value)) in
    subst (λ u. Adds (stock c.args.part.now) (room u) (stock c.start_row.new.part)) (sym whole) c.start_row.ensures.held

pub start-returns-in-Any-clause-held : goal.start-returns-in-Any-clause-held
start-returns-in-Any-clause-held g t c most was wanted =
    let offer = c.place_among-offer.result in
    let child = c.index.result.now in
    let ss = c.in-Any.children.items in
    let at = child_at ss c.as_slice-in-Any.result.now offer.child child c.as_slice-in-Any.ensures.value c.place_among-offer.ensures.within c.index.ensures in
    let whole = ap plain c.in-Any.is ∙ plain-Any c.in-Any.children in
    c.start.ensures.held most was (one-room ss offer.child child most at (subst (λ u. Within (room u) most) whole wanted))

pub start-returns-in-Both-clause-held : goal.start-returns-in-Both-clause-held
start-returns-in-Both-clause-held g t c =
    let whole = ap plain c.in-Both.is ∙ (plain-Both c.in-Both.children ∙ ap (λ us. tree.Both (plain_all us)) (sym c.as_slice-in-Both.ensures.value)) in
    subst (λ u. Adds (stock c.args.part.now) (room u) (stock c.start_both.new.part)) (sym whole) c.start_both.ensures.held

pub start_both-returns-in_err-start_part-clause-held : goal.start_both-returns-in_err-start_part-clause-held
start_both-returns-in_err-start_part-clause-held g t c most was wanted =
    let offer = c.place_among-offer.result in
    let child = c.index-children-offer.result in
    let ss = c.args.children.now in
    let at = child_at ss ss offer.child child refl c.place_among-offer.ensures.within c.index-children-offer.is in
    c.start_part.ensures.held most was (all-bare ss most wanted) (all-room ss offer.child child most at wanted)

pub start_both-returns-clause-held : goal.start_both-returns-clause-held
start_both-returns-clause-held g t c most was wanted =
    let offer = c.place_among-offer.result in
    let child = c.index-children-offer.result in
    let ss = c.args.children.now in
    let at = child_at ss ss offer.child child refl c.place_among-offer.ensures.within c.index-children-offer.is in
    rw (c.move_to.ensures.held ∙ c.keep_others.ensures.held) (c.start_part.ensures.held most was (all-bare ss most wanted) (all-room ss offer.child child most at wanted))

pub start_row-returns-in_err-start_part-clause-held : goal.start_row-returns-in_err-start_part-clause-held
start_row-returns-in_err-start_part-clause-held g t c most was wanted =
    let offer = c.place_in_turn-offer.result in
    let child = c.index-children-offer.result in
    let ss = c.args.children.now in
    let at = child_at ss ss offer.child child refl c.place_in_turn-offer.ensures.within c.index-children-offer.is in
    c.start_part.ensures.held most was (turn-bare ss offer.child most c.place_in_turn-offer.ensures.within wanted) (turn-room ss offer.child child most at wanted)

pub start_row-returns-clause-held : goal.start_row-returns-clause-held
start_row-returns-clause-held g t c most was wanted =
    let offer = c.place_in_turn-offer.result in
    let child = c.index-children-offer.result in
    let ss = c.args.children.now in
    let at = child_at ss ss offer.child child refl c.place_in_turn-offer.ensures.within c.index-children-offer.is in
    rw c.move_to.ensures.held (c.start_part.ensures.held most was (turn-bare ss offer.child most c.place_in_turn-offer.ensures.within wanted) (turn-room ss offer.child child most at wanted))

pub start_part-returns-clause-held : goal.start_part-returns-clause-held
start_part-returns-clause-held g t c most was bare wanted =
    let items = c.in-Begun.parts.items in
    let within : c.args.number < length items = grind (arith, common_steps, parts, length-map) in
    let old = c.index_mut.result.now in
    let at : slice_get items c.args.number ≡ Some old = slice_get-get_or items c.args.number old within ∙ ap Some (search rules) in
    let grown = c.make_room.ensures.held most was bare in
    let before : Within (holding (map stock items)) most = grind (arith, common_steps, parts, grown) in
    let all = adds-one stock items c.args.number old c.start.new.part (room (plain c.args.tree.now)) at c.start.ensures.held most before wanted in
    grind (arith, common_steps, parts, all)

pub start_part-returns-in_err-make_room-clause-moves : goal.start_part-returns-in_err-make_room-clause-moves
start_part-returns-in_err-make_room-clause-moves g t c = match-failed _ _ _ c.from_residual.ensures.0 c.make_room.ensures.same

pub start_part-returns-in_err-make_room-clause-held : goal.start_part-returns-in_err-make_room-clause-held
start_part-returns-in_err-make_room-clause-held g t c most was bare wanted = c.make_room.ensures.held most was bare
