use Rattle.std.proofs.Common.{Some, refl, ap, sym, ◌∙◌, arith}
use Rattle.std.proofs.lemmas.Grind.{common_steps}
use Rattle.std.proofs.lemmas.List.{drop_all}
use Rattle.std.proofs.lemmas.Option.{slice_get-get_or}
use Rattle.scenario.specs.Tree.{plain, plain_all}
use Rattle.scenario.specs.Seeking.{sought}
use Rattle.scenario.specs.Taking.{offers_in_turn, offers_of_all}
use Rattle.scenario.specs.declared.tree.Scenario.TheFolds.{the_lemmas}
use Rattle.scenario.proofs.Children.{children}
use Rattle.scenario.proofs.Sought.{found-all, passed-all, found-in_turn, passed-in_turn, stopped-in_turn}
use Rattle.scenario.proofs.seeking.+seeking.Goals as goal

pub seek_in_all-returns-in-Ok : goal.seek_in_all-returns-in-Ok
seek_in_all-returns-in-Ok g t c =
    let at = slice_get-get_or c.args.children.now c.loop-child.child-index c.child-item.result c.loop-child-test.true ∙ ap Some (sym c.child-item.is) in
    sym (found-all plain c.args.children.now c.loop-child.child-index c.loop-child.further c.child-item.result c.in-Ok.ask at
    (sym c.seek_in_tree.ensures ∙ c.in-Ok.is)) ∙ c.loop-child.invariant

pub seek_in_all-loop-child-preserved : goal.seek_in_all-loop-child-preserved
seek_in_all-loop-child-preserved g t c =
    let at = slice_get-get_or c.args.children.now c.loop-child.child-index c.child-item.result c.loop-child-test.true ∙ ap Some (sym c.child-item.is) in
    sym (passed-all plain c.args.children.now c.loop-child.child-index c.loop-child.further c.in-Err.behind c.child-item.result at
    (sym c.seek_in_tree.ensures ∙ c.in-Err.is)) ∙ c.loop-child.invariant

pub seek_in_turn-returns-in-Ok : goal.seek_in_turn-returns-in-Ok
seek_in_turn-returns-in-Ok g t c =
    let at = slice_get-get_or c.args.children.now c.loop-child.child-index c.child-item.result c.loop-child-test.true ∙ ap Some (sym c.child-item.is) in
    sym (found-in_turn c.args.children.now c.loop-child.child-index c.loop-child.further c.child-item.result c.in-Ok.ask at
    (sym c.seek_in_tree.ensures ∙ c.in-Ok.is)) ∙ c.loop-child.invariant

pub seek_in_turn-loop-child-preserved : goal.seek_in_turn-loop-child-preserved
seek_in_turn-loop-child-preserved g t c =
    let at = slice_get-get_or c.args.children.now c.loop-child.child-index c.child-item.result c.loop-child-test.true ∙ ap Some (sym c.child-item.is) in
    sym (passed-in_turn c.args.children.now c.loop-child.child-index c.loop-child.further c.in-Err.behind c.child-item.result at
    (sym c.seek_in_tree.ensures ∙ c.in-Err.is) (sym c.tree_may_end.ensures ∙ c.if-not-tree_may_end.false)) ∙ c.loop-child.invariant

pub seek_in_all-loop-child-init : goal.seek_in_all-loop-child-init
seek_in_all-loop-child-init g t c = refl

pub seek_in_all-offset_bounds-children-child-index : goal.seek_in_all-offset_bounds-children-child-index
seek_in_all-offset_bounds-children-child-index g t c = grind (arith, common_steps)

pub seek_in_all-loop-child-smaller : goal.seek_in_all-loop-child-smaller
seek_in_all-loop-child-smaller g t c = omega arith

pub seek_in_all-seek_in_tree-requires : goal.seek_in_all-seek_in_tree-requires
seek_in_all-seek_in_tree-requires g t c = grind (the_lemmas, arith, common_steps)

pub seek_in_all-returns : goal.seek_in_all-returns
seek_in_all-returns g t c =
    let all = drop_all c.loop-child.child-index c.args.children.now c.loop-child-test.false in
    sym (ap (λ ss. sought (offers_of_all (plain_all ss)) c.loop-child.further) all) ∙ c.loop-child.invariant

pub seek_in_turn-loop-child-init : goal.seek_in_turn-loop-child-init
seek_in_turn-loop-child-init g t c = refl

pub seek_in_turn-offset_bounds-children-child-index : goal.seek_in_turn-offset_bounds-children-child-index
seek_in_turn-offset_bounds-children-child-index g t c = grind (arith, common_steps)

pub seek_in_turn-loop-child-smaller : goal.seek_in_turn-loop-child-smaller
seek_in_turn-loop-child-smaller g t c = omega arith

pub seek_in_turn-seek_in_tree-requires : goal.seek_in_turn-seek_in_tree-requires
seek_in_turn-seek_in_tree-requires g t c = grind (the_lemmas, arith, common_steps)

pub seek_in_turn-returns : goal.seek_in_turn-returns
seek_in_turn-returns g t c =
    let all = drop_all c.loop-child.child-index c.args.children.now c.loop-child-test.false in
    sym (ap (λ ss. sought (offers_in_turn (plain_all ss)) c.loop-child.further) all) ∙ c.loop-child.invariant

pub seek_in_turn-returns-then-not-tree_may_end : goal.seek_in_turn-returns-then-not-tree_may_end
seek_in_turn-returns-then-not-tree_may_end g t c =
    let at = slice_get-get_or c.args.children.now c.loop-child.child-index c.child-item.result c.loop-child-test.true ∙ ap Some (sym c.child-item.is) in
    sym (stopped-in_turn c.args.children.now c.loop-child.child-index c.loop-child.further c.in-Err.behind c.child-item.result at
    (sym c.seek_in_tree.ensures ∙ c.in-Err.is) (sym c.tree_may_end.ensures ∙ c.if-not-tree_may_end.true)) ∙ c.loop-child.invariant

pub seek_in_tree-overflow_sub-result : goal.seek_in_tree-overflow_sub-result
seek_in_tree-overflow_sub-result g t c = grind (arith, common_steps)

pub seek_in_tree-returns-then-turns-eq0 : goal.seek_in_tree-returns-then-turns-eq0
seek_in_tree-returns-then-turns-eq0 g t c = grind (arith, common_steps)

pub seek_in_tree-returns-else-turns-eq0 : goal.seek_in_tree-returns-else-turns-eq0
seek_in_tree-returns-else-turns-eq0 g t c = grind (arith, common_steps)

pub seek_in_tree-returns-in-Seq : goal.seek_in_tree-returns-in-Seq
seek_in_tree-returns-in-Seq g t c = grind (arith, common_steps, children)

pub seek_in_tree-returns-in-Any : goal.seek_in_tree-returns-in-Any
seek_in_tree-returns-in-Any g t c = grind (arith, common_steps, children)

pub seek_in_tree-seek_in_turn-requires : goal.seek_in_tree-seek_in_turn-requires
seek_in_tree-seek_in_turn-requires g t c = grind (the_lemmas, arith, common_steps)

pub seek_in_tree-seek_in_tree-requires : goal.seek_in_tree-seek_in_tree-requires
seek_in_tree-seek_in_tree-requires g t c = grind (the_lemmas, arith, common_steps)

pub seek_in_tree-seek_in_all-requires : goal.seek_in_tree-seek_in_all-requires
seek_in_tree-seek_in_all-requires g t c = grind (the_lemmas, arith, common_steps)

pub seek_in_all-loop-child-smaller-in-One : goal.seek_in_all-loop-child-smaller-in-One
seek_in_all-loop-child-smaller-in-One g t c = omega arith

pub seek_in_all-overflow_sub-further : goal.seek_in_all-overflow_sub-further
seek_in_all-overflow_sub-further g t c = grind (arith, common_steps)

pub seek_in_all-returns-then-further-eq0 : goal.seek_in_all-returns-then-further-eq0
seek_in_all-returns-then-further-eq0 g t c = grind (arith, common_steps)

pub seek_in_all-loop-child-preserved-in-One : goal.seek_in_all-loop-child-preserved-in-One
seek_in_all-loop-child-preserved-in-One g t c = grind (arith, common_steps)

pub seek_in_all-bounds-children-child-index : goal.seek_in_all-bounds-children-child-index
seek_in_all-bounds-children-child-index g t c = grind (arith, common_steps)

pub seek_in_turn-bounds-children-child-index : goal.seek_in_turn-bounds-children-child-index
seek_in_turn-bounds-children-child-index g t c = grind (arith, common_steps)
