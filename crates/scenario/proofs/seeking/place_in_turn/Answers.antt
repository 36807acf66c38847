use Rattle.std.proofs.Common.{◌<◌, Some, length, refl, ap, sym, subst, ◌∙◌, arith}
use Rattle.std.proofs.lemmas.Grind.{common_steps}
use Rattle.std.proofs.lemmas.List.{drop_all}
use Rattle.std.proofs.lemmas.Option.{slice_get-get_or}
use Rattle.scenario.specs.Tree.{plain_all}
use Rattle.scenario.specs.Taking.{offers_in_turn}
use Rattle.scenario.proofs.Places.{counted_in_turn, found_in_turn, passed_in_turn, still, ends_before}
use Rattle.scenario.proofs.Sought.{past-ok, past-err}
use Rattle.scenario.proofs.seeking.place_in_turn.Goals as goal

pub returns-in-Ok-clause-place : goal.returns-in-Ok-clause-place
returns-in-Ok-clause-place g c =
    let i = c.loop-i.invariant in
    let at = slice_get-get_or c.args.children.now c.loop-i.i c.index-children-i.result c.loop-i-test.true ∙ ap Some (sym c.index-children-i.is) in
    found_in_turn c.args.children.now c.args.at c.loop-i.i c.loop-i.further c.index-children-i.result at
    (past-ok _ _ c.in-Ok.field-0 (sym c.seek_in_tree.ensures ∙ c.in-Ok.is)) i.1 i.2

pub loop-i-preserved : goal.loop-i-preserved
loop-i-preserved g c =
    let i = c.loop-i.invariant in
    let at = slice_get-get_or c.args.children.now c.loop-i.i c.index-children-i.result c.loop-i-test.true ∙ ap Some (sym c.index-children-i.is) in
    let behind = past-err _ _ _ (sym c.seek_in_tree.ensures ∙ c.in-Err.is) in
    let end = ends_before c.args.children.now c.loop-i.i c.loop-i.further c.in-Err.behind c.index-children-i.result at behind (still _ _ _ _ i.0 c.requires) in
    let more = passed_in_turn c.args.children.now c.args.at c.loop-i.i c.loop-i.further c.in-Err.behind c.index-children-i.result at behind end i.1 i.2 in
    let count = counted_in_turn c.args.children.now c.loop-i.i c.loop-i.further c.in-Err.behind c.index-children-i.result at behind end in
    (count ∙ i.0, more.0, more.1)

pub loop-i-init : goal.loop-i-init
loop-i-init g c = (refl, refl, refl)

pub offset_bounds-children-i : goal.offset_bounds-children-i
offset_bounds-children-i g c = grind (arith, common_steps)

pub bounds-children-i : goal.bounds-children-i
bounds-children-i g c = grind (arith, common_steps)

pub returns-in-Ok-clause-within : goal.returns-in-Ok-clause-within
returns-in-Ok-clause-within g c = c.loop-i-test.true

pub unreachable-requires : goal.unreachable-requires
unreachable-requires g c =
    let all = drop_all c.loop-i.i c.args.children.now c.loop-i-test.false in
    let low = still _ _ _ _ c.loop-i.invariant.0 c.requires in
    let none : c.loop-i.further < 0 = subst (λ ss. c.loop-i.further < length (offers_in_turn (plain_all ss))) all low in
    omega (arith, none)

pub unreachable-unreachable : goal.unreachable-unreachable
unreachable-unreachable g c = grind (arith, common_steps)
