use Rattle.std.proofs.Common.{◌≡◌, ◌<◌, length, ap, refl, sym, subst, ◌∙◌, arith, rules}
use Rattle.std.proofs.lemmas.Grind.{common_steps}
use Rattle.scenario.specs.Tree as tree
use Rattle.scenario.specs.Tree.{plain, plain_all}
use Rattle.scenario.specs.Taking.{offers, offers_in_turn, offers_of_all}
use Rattle.scenario.specs.Limits.{depth}
use Rattle.scenario.specs.Rests.{IsPlaceInTurn, IsPlaceAmong}
use Rattle.scenario.proofs.Children.{children, plain-Seq}
use Rattle.scenario.proofs.Failing.{match-map}
use Rattle.scenario.proofs.Parting.{deeper_row, deeper_any, deeper_both, no_deeper, within_row, within_any, within_both, within_turns, left_of_ask, left_of_any, only_child, only_set}
use Rattle.scenario.proofs.Places.{child_at, same_child, within_turn, within_child, leaves_in_turn, leaves_among, leaves_of_any}
use Rattle.scenario.proofs.taking.+taking.Goals as goal

pub take_in_turn-returns : goal.take_in_turn-returns
take_in_turn-returns g t c =
    let offer = c.place_in_turn-offer.result in
    let child = c.index_mut.result.now in
    let ss = c.args.children.now.items in
    let at = child_at ss c.as_slice.result.now offer.child child c.as_slice.ensures.value c.place_in_turn-offer.ensures.within c.index_mut.ensures.value in
    let place = subst (λ us. IsPlaceInTurn us c.args.at offer.child offer.at) c.as_slice.ensures.value c.place_in_turn-offer.ensures.place in
    let new = c.drop_front.new.items.items in
    leaves_in_turn ss new c.args.at offer.child offer.at child c.take_one.new.tree c.in-Ok.ask at place c.in-Ok.ensures c.drop_front.ensures

pub take_in_turn-returns-in_default : goal.take_in_turn-returns-in_default
take_in_turn-returns-in_default g t c =
    let offer = c.place_in_turn-offer.result in
    let child = c.index_mut.result.now in
    let ss = c.args.children.now.items in
    let at = child_at ss c.as_slice.result.now offer.child child c.as_slice.ensures.value c.place_in_turn-offer.ensures.within c.index_mut.ensures.value in
    same_child ss offer.child child c.take_one.new.tree at c.in_default.ensures

pub take_among-returns : goal.take_among-returns
take_among-returns g t c =
    let offer = c.place_among-offer.result in
    let child = c.index_mut-child.result.now in
    let ss = c.args.children.now.items in
    let at = child_at ss c.as_slice.result.now offer.child child c.as_slice.ensures.value c.place_among-offer.ensures.within c.index_mut-child.ensures.value in
    let place = subst (λ us. IsPlaceAmong us c.args.at offer.child offer.at) c.as_slice.ensures.value c.place_among-offer.ensures.place in
    match-map c.take_one.result (λ ask. leaves_among ss c.args.at offer.child offer.at child c.take_one.new.tree ask at place)
    (same_child ss offer.child child c.take_one.new.tree at) c.take_one.ensures

pub take_from_any-returns : goal.take_from_any-returns
take_from_any-returns g t c =
    let offer = c.place_among-offer.result in
    let child = c.index_mut.result.now in
    let ss = c.args.children.now.items in
    let at = child_at ss c.as_slice.result.now offer.child child c.as_slice.ensures.value c.place_among-offer.ensures.within c.index_mut.ensures.value in
    let place = subst (λ us. IsPlaceAmong us c.args.at offer.child offer.at) c.as_slice.ensures.value c.place_among-offer.ensures.place in
    let taken = leaves_of_any ss c.args.at offer.child offer.at child c.take_one.new.tree c.in-Ok.ask at place c.in-Ok.ensures in
    let gone : plain c.swap_remove.result ≡ plain c.take_one.new.tree = search rules in
    (taken.0, gone ∙ taken.1)

pub take_from_any-returns-in_default : goal.take_from_any-returns-in_default
take_from_any-returns-in_default g t c =
    let offer = c.place_among-offer.result in
    let child = c.index_mut.result.now in
    let ss = c.args.children.now.items in
    let at = child_at ss c.as_slice.result.now offer.child child c.as_slice.ensures.value c.place_among-offer.ensures.within c.index_mut.ensures.value in
    same_child ss offer.child child c.take_one.new.tree at c.in_default.ensures

pub take_one-take_in_turn-requires : goal.take_one-take_in_turn-requires
take_one-take_in_turn-requires g t c κs within =
    let low = deeper_row c.args.tree.now c.in-Seq.children _ c.in-Seq.is c.in-Seq.children-is in
    (omega (arith, low, c.decreases), (within, within_row c.args.tree.now c.in-Seq.children _ c.args.at c.in-Seq.is c.in-Seq.children-is c.requires))

pub take_one-take_from_any-requires : goal.take_one-take_from_any-requires
take_one-take_from_any-requires g t c κs within =
    let low = deeper_any c.args.tree.now c.in-Any.children _ c.in-Any.is c.in-Any.children-is in
    (omega (arith, low, c.decreases), (within, within_any c.args.tree.now c.in-Any.children _ c.args.at c.in-Any.is c.in-Any.children-is c.requires))

pub take_one-take_among-requires : goal.take_one-take_among-requires
take_one-take_among-requires g t c κs within =
    let low = deeper_both c.args.tree.now c.in-Both.children _ c.in-Both.is c.in-Both.children-is in
    (omega (arith, low, c.decreases), (within, within_both c.args.tree.now c.in-Both.children _ c.args.at c.in-Both.is c.in-Both.children-is c.requires))

pub take_among-place_among-offer-requires : goal.take_among-place_among-offer-requires
take_among-place_among-offer-requires g t c = subst (λ us. c.args.at < length (offers_of_all (plain_all us))) (sym c.as_slice.ensures.value) c.requires

pub take_among-take_one-requires : goal.take_among-take_one-requires
take_among-take_one-requires g t c κs within =
    let offer = c.place_among-offer.result in
    let child = c.index_mut-child.result.now in
    let ss = c.args.children.now.items in
    let at = child_at ss c.as_slice.result.now offer.child child c.as_slice.ensures.value c.place_among-offer.ensures.within c.index_mut-child.ensures.value in
    let place = subst (λ us. IsPlaceAmong us c.args.at offer.child offer.at) c.as_slice.ensures.value c.place_among-offer.ensures.place in
    (let low = no_deeper ss offer.child child at in omega (arith, low, c.decreases), (within, within_child ss c.args.at offer.child offer.at child at place))

pub take_from_any-place_among-offer-requires : goal.take_from_any-place_among-offer-requires
take_from_any-place_among-offer-requires g t c = subst (λ us. c.args.at < length (offers_of_all (plain_all us))) (sym c.as_slice.ensures.value) c.requires

pub take_from_any-swap_remove-requires : goal.take_from_any-swap_remove-requires
take_from_any-swap_remove-requires g t c = grind (arith, common_steps)

pub take_from_any-take_one-requires : goal.take_from_any-take_one-requires
take_from_any-take_one-requires g t c κs within =
    let offer = c.place_among-offer.result in
    let child = c.index_mut.result.now in
    let ss = c.args.children.now.items in
    let at = child_at ss c.as_slice.result.now offer.child child c.as_slice.ensures.value c.place_among-offer.ensures.within c.index_mut.ensures.value in
    let place = subst (λ us. IsPlaceAmong us c.args.at offer.child offer.at) c.as_slice.ensures.value c.place_among-offer.ensures.place in
    (let low = no_deeper ss offer.child child at in omega (arith, low, c.decreases), (within, within_child ss c.args.at offer.child offer.at child at place))

pub take_from_turn-returns-clause-child : goal.take_from_turn-returns-clause-child
take_from_turn-returns-clause-child g t c =
    let parts = c.in-Ok.ensures.parts in
    ap plain c.swap.ensures.x_after ∙ (only_child c.in-Ok.parts.items c.index_mut.result.now parts.0 c.index_mut.ensures.value ∙ c.in-Ok.ensures.copy)

pub take_from_turn-returns-clause-ok : goal.take_from_turn-returns-clause-ok
take_from_turn-returns-clause-ok g t c =
    let left = only_set c.in-Ok.parts.items c.swap.new.y c.in-Ok.ensures.parts.0 ∙ ap plain c.swap.ensures.y_after in
    (c.in-Ok-take_one.ensures.0, left ∙ c.in-Ok-take_one.ensures.1)

pub take_from_turn-returns-clause-parts : goal.take_from_turn-returns-clause-parts
take_from_turn-returns-clause-parts g t c = grind (arith, common_steps)

pub take_from_turn-returns-in_default-clause-ok : goal.take_from_turn-returns-in_default-clause-ok
take_from_turn-returns-in_default-clause-ok g t c = tt

pub take_from_turn-returns-in_default-clause-parts : goal.take_from_turn-returns-in_default-clause-parts
take_from_turn-returns-in_default-clause-parts g t c = tt

pub take_from_turn-returns-in_default-clause-child : goal.take_from_turn-returns-in_default-clause-child
take_from_turn-returns-in_default-clause-child g t c = refl

pub take_from_turn-returns-in_default-take_one-clause-ok : goal.take_from_turn-returns-in_default-take_one-clause-ok
take_from_turn-returns-in_default-take_one-clause-ok g t c = tt

pub take_from_turn-returns-in_default-take_one-clause-parts : goal.take_from_turn-returns-in_default-take_one-clause-parts
take_from_turn-returns-in_default-take_one-clause-parts g t c = tt

pub take_from_turn-returns-in_default-take_one-clause-child : goal.take_from_turn-returns-in_default-take_one-clause-child
take_from_turn-returns-in_default-take_one-clause-child g t c = c.in_default-take_one.ensures

pub take_from_turn-take_one-requires : goal.take_from_turn-take_one-requires
take_from_turn-take_one-requires g t c κs within = (omega (arith, c.decreases), (within, c.requires))

pub take_from_turn-index_mut-requires : goal.take_from_turn-index_mut-requires
take_from_turn-index_mut-requires g t c = grind (arith, common_steps)

pub take_in_turn-drop_front-requires : goal.take_in_turn-drop_front-requires
take_in_turn-drop_front-requires g t c = grind (arith, common_steps)

pub take_in_turn-place_in_turn-offer-requires : goal.take_in_turn-place_in_turn-offer-requires
take_in_turn-place_in_turn-offer-requires g t c = subst (λ us. c.args.at < length (offers_in_turn (plain_all us))) (sym c.as_slice.ensures.value) c.requires

pub take_in_turn-take_one-requires : goal.take_in_turn-take_one-requires
take_in_turn-take_one-requires g t c κs within =
    let offer = c.place_in_turn-offer.result in
    let child = c.index_mut.result.now in
    let ss = c.args.children.now.items in
    let at = child_at ss c.as_slice.result.now offer.child child c.as_slice.ensures.value c.place_in_turn-offer.ensures.within c.index_mut.ensures.value in
    let place = subst (λ us. IsPlaceInTurn us c.args.at offer.child offer.at) c.as_slice.ensures.value c.place_in_turn-offer.ensures.place in
    (let low = no_deeper ss offer.child child at in omega (arith, low, c.decreases), (within, within_turn ss c.args.at offer.child offer.at child at place))

pub take_one-overflow_sub-turns : goal.take_one-overflow_sub-turns
take_one-overflow_sub-turns g t c = grind (arith, common_steps, children)

pub take_one-put_before-requires-clause-turn : goal.take_one-put_before-requires-clause-turn
take_one-put_before-requires-clause-turn g t c = c.in-Ok-take_from_turn.ensures.parts.0

pub take_one-put_before-requires-clause-room : goal.take_one-put_before-requires-clause-room
take_one-put_before-requires-clause-room g t c = c.in-Ok-take_from_turn.ensures.parts.1

pub take_one-returns-in-One : goal.take_one-returns-in-One
take_one-returns-in-One g t c = let row = c.leave.ensures ∙ (plain-Seq c.new.result ∙ ap (λ us. tree.Seq (plain_all us)) c.new.ensures.items) in
    left_of_ask c.args.tree.now c.in-One.ask _ c.args.at (plain c.leave.new.scenario) c.in-One.is c.in-One.ask-is c.requires row

pub take_one-returns-in-Both : goal.take_one-returns-in-Both
take_one-returns-in-Both g t c = grind (arith, common_steps, children)

pub take_one-returns-in_default : goal.take_one-returns-in_default
take_one-returns-in_default g t c = grind (arith, common_steps, children)

pub take_one-returns-in_default-take_from_any : goal.take_one-returns-in_default-take_from_any
take_one-returns-in_default-take_from_any g t c = grind (arith, common_steps, children)

pub take_one-returns-in_default-take_from_turn : goal.take_one-returns-in_default-take_from_turn
take_one-returns-in_default-take_from_turn g t c = grind (arith, common_steps, children)

pub take_one-returns-in-Ok-take_from_any : goal.take_one-returns-in-Ok-take_from_any
take_one-returns-in-Ok-take_from_any g t c = left_of_any c.args.tree.now c.in-Any.children _ c.args.at c.in-Ok-take_from_any.ask _ _ c.in-Any.is c.in-Any.children-is c.in-Ok-take_from_any.ensures c.leave-in-Any.ensures

pub take_one-returns-in-Ok-take_from_turn : goal.take_one-returns-in-Ok-take_from_turn
take_one-returns-in-Ok-take_from_turn g t c = grind (arith, common_steps, children)

pub take_one-returns-in-Ok : goal.take_one-returns-in-Ok
take_one-returns-in-Ok g t c = grind (arith, common_steps, children)

pub take_one-take_from_turn-requires : goal.take_one-take_from_turn-requires
take_one-take_from_turn-requires g t c κs within =
    let child = plain c.deref_mut.result.now in
    let whole : plain c.args.tree.now ≡ tree.Times c.in-Times.turns child = grind (arith, common_steps) in
    let low = ap depth whole in
    let inside = within_turns c.in-Times.turns child c.args.at (subst (λ u. c.args.at < length (offers u)) whole c.requires) in
    (omega (arith, low, c.decreases), (within, inside))
