use Rattle.std.proofs.Common.{arith}
use Rattle.std.proofs.lemmas.Grind.{common_steps}
use Rattle.scenario.proofs.Children.{children}
use Rattle.scenario.proofs.Fronts.{fronts}
use Rattle.scenario.specs.declared.tree.Scenario.TheFolds.{the_lemmas}
use Rattle.scenario.proofs.Failing.{on_ok-failed}
use Rattle.scenario.proofs.looking.+offering.Goals as goal

pub offers_in_turn-returns-in_err-offers_of_tree-clause-ok : goal.offers_in_turn-returns-in_err-offers_of_tree-clause-ok
offers_in_turn-returns-in_err-offers_of_tree-clause-ok g t c = on_ok-failed _ _ c.from_residual.ensures.0

pub offers_in_turn-returns-in_err-offers_of_tree-clause-front : goal.offers_in_turn-returns-in_err-offers_of_tree-clause-front
offers_in_turn-returns-in_err-offers_of_tree-clause-front g t c = grind (arith, common_steps, fronts)

pub offers_in_turn-returns-then-not-tree_may_end-clause-ok : goal.offers_in_turn-returns-then-not-tree_may_end-clause-ok
offers_in_turn-returns-then-not-tree_may_end-clause-ok g t c = grind (arith, common_steps, fronts)

pub offers_in_turn-returns-then-not-tree_may_end-clause-front : goal.offers_in_turn-returns-then-not-tree_may_end-clause-front
offers_in_turn-returns-then-not-tree_may_end-clause-front g t c = grind (arith, common_steps, fronts)

pub offers_in_turn-loop-child-preserved : goal.offers_in_turn-loop-child-preserved
offers_in_turn-loop-child-preserved g t c = grind (arith, common_steps, fronts)

pub offers_in_turn-returns-clause-ok : goal.offers_in_turn-returns-clause-ok
offers_in_turn-returns-clause-ok g t c = grind (arith, common_steps, fronts)

pub offers_in_turn-returns-clause-front : goal.offers_in_turn-returns-clause-front
offers_in_turn-returns-clause-front g t c = grind (arith, common_steps, fronts)

pub offers_of_all-returns-in_err-offers_of_tree-clause-ok : goal.offers_of_all-returns-in_err-offers_of_tree-clause-ok
offers_of_all-returns-in_err-offers_of_tree-clause-ok g t c = on_ok-failed _ _ c.from_residual.ensures.0

pub offers_of_all-returns-in_err-offers_of_tree-clause-front : goal.offers_of_all-returns-in_err-offers_of_tree-clause-front
offers_of_all-returns-in_err-offers_of_tree-clause-front g t c = grind (arith, common_steps, fronts)

pub offers_of_all-loop-child-preserved : goal.offers_of_all-loop-child-preserved
offers_of_all-loop-child-preserved g t c = grind (arith, common_steps, fronts)

pub offers_of_all-returns-clause-ok : goal.offers_of_all-returns-clause-ok
offers_of_all-returns-clause-ok g t c = grind (arith, common_steps, fronts)

pub offers_of_all-returns-clause-front : goal.offers_of_all-returns-clause-front
offers_of_all-returns-clause-front g t c = grind (arith, common_steps, fronts)

pub offers_of_tree-returns-in_err-push-in-One-clause-ok : goal.offers_of_tree-returns-in_err-push-in-One-clause-ok
offers_of_tree-returns-in_err-push-in-One-clause-ok g t c = on_ok-failed _ _ c.from_residual.ensures.0

pub offers_of_tree-returns-in_err-push-in-One-clause-front : goal.offers_of_tree-returns-in_err-push-in-One-clause-front
offers_of_tree-returns-in_err-push-in-One-clause-front g t c = grind (arith, common_steps, children)

pub offers_of_tree-returns-in_err-offers_of_tree-in-Times-clause-ok : goal.offers_of_tree-returns-in_err-offers_of_tree-in-Times-clause-ok
offers_of_tree-returns-in_err-offers_of_tree-in-Times-clause-ok g t c = on_ok-failed _ _ c.from_residual-in_err-offers_of_tree-in-Times.ensures.0

pub offers_of_tree-returns-in_err-offers_of_tree-in-Times-clause-front : goal.offers_of_tree-returns-in_err-offers_of_tree-in-Times-clause-front
offers_of_tree-returns-in_err-offers_of_tree-in-Times-clause-front g t c = grind (arith, common_steps, children)

pub offers_of_tree-returns-in_ok-push-in-One-clause-ok : goal.offers_of_tree-returns-in_ok-push-in-One-clause-ok
offers_of_tree-returns-in_ok-push-in-One-clause-ok g t c = grind (arith, common_steps, children)

pub offers_of_tree-returns-in_ok-push-in-One-clause-front : goal.offers_of_tree-returns-in_ok-push-in-One-clause-front
offers_of_tree-returns-in_ok-push-in-One-clause-front g t c = grind (arith, common_steps, children)

pub offers_of_tree-returns-in-Seq-clause-ok : goal.offers_of_tree-returns-in-Seq-clause-ok
offers_of_tree-returns-in-Seq-clause-ok g t c = grind (arith, common_steps, children)

pub offers_of_tree-returns-in-Seq-clause-front : goal.offers_of_tree-returns-in-Seq-clause-front
offers_of_tree-returns-in-Seq-clause-front g t c = grind (arith, common_steps, children)

pub offers_of_tree-returns-in_ok-offers_of_tree-in-Times-clause-ok : goal.offers_of_tree-returns-in_ok-offers_of_tree-in-Times-clause-ok
offers_of_tree-returns-in_ok-offers_of_tree-in-Times-clause-ok g t c = grind (arith, common_steps, children)

pub offers_of_tree-returns-in_ok-offers_of_tree-in-Times-clause-front : goal.offers_of_tree-returns-in_ok-offers_of_tree-in-Times-clause-front
offers_of_tree-returns-in_ok-offers_of_tree-in-Times-clause-front g t c = grind (arith, common_steps, children)

pub offers_of_tree-returns-else-turns-gt0-clause-ok : goal.offers_of_tree-returns-else-turns-gt0-clause-ok
offers_of_tree-returns-else-turns-gt0-clause-ok g t c = grind (arith, common_steps, children)

pub offers_of_tree-returns-else-turns-gt0-clause-front : goal.offers_of_tree-returns-else-turns-gt0-clause-front
offers_of_tree-returns-else-turns-gt0-clause-front g t c = grind (arith, common_steps, children)

pub offers_of_tree-returns-in-Any-clause-ok : goal.offers_of_tree-returns-in-Any-clause-ok
offers_of_tree-returns-in-Any-clause-ok g t c = grind (arith, common_steps, children)

pub offers_of_tree-returns-in-Any-clause-front : goal.offers_of_tree-returns-in-Any-clause-front
offers_of_tree-returns-in-Any-clause-front g t c = grind (arith, common_steps, children)

pub offers_in_turn-loop-child-init : goal.offers_in_turn-loop-child-init
offers_in_turn-loop-child-init g t c = grind (arith, common_steps)

pub offers_in_turn-offset_bounds-children-child-index : goal.offers_in_turn-offset_bounds-children-child-index
offers_in_turn-offset_bounds-children-child-index g t c = grind (arith, common_steps)

pub offers_in_turn-loop-child-smaller : goal.offers_in_turn-loop-child-smaller
offers_in_turn-loop-child-smaller g t c = omega arith

pub offers_of_all-loop-child-init : goal.offers_of_all-loop-child-init
offers_of_all-loop-child-init g t c = grind (arith, common_steps)

pub offers_of_all-offset_bounds-children-child-index : goal.offers_of_all-offset_bounds-children-child-index
offers_of_all-offset_bounds-children-child-index g t c = grind (arith, common_steps)

pub offers_of_all-loop-child-smaller : goal.offers_of_all-loop-child-smaller
offers_of_all-loop-child-smaller g t c = omega arith

pub offers_in_turn-offers_of_tree-requires : goal.offers_in_turn-offers_of_tree-requires
offers_in_turn-offers_of_tree-requires g t c = grind (the_lemmas, arith, common_steps)

pub offers_of_all-offers_of_tree-requires : goal.offers_of_all-offers_of_tree-requires
offers_of_all-offers_of_tree-requires g t c = grind (the_lemmas, arith, common_steps)

pub offers_of_tree-offers_in_turn-requires : goal.offers_of_tree-offers_in_turn-requires
offers_of_tree-offers_in_turn-requires g t c = grind (the_lemmas, arith, common_steps)

pub offers_of_tree-offers_of_tree-requires : goal.offers_of_tree-offers_of_tree-requires
offers_of_tree-offers_of_tree-requires g t c = grind (the_lemmas, arith, common_steps)

pub offers_of_tree-offers_of_all-requires : goal.offers_of_tree-offers_of_all-requires
offers_of_tree-offers_of_all-requires g t c = grind (the_lemmas, arith, common_steps)
