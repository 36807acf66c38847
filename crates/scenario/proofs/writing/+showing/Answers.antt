use Rattle.std.proofs.Common.{arith}
use Rattle.std.proofs.lemmas.Grind.{common_steps}
use Rattle.scenario.proofs.Children.{children}
use Rattle.scenario.proofs.Shown.{items_shown}
use Rattle.scenario.specs.declared.tree.Scenario.TheFolds.{the_lemmas}
use Rattle.scenario.proofs.Failing.{if_ok-failed}
use Rattle.scenario.proofs.writing.+showing.Goals as goal

pub value_of-returns-in-Seq : goal.value_of-returns-in-Seq
value_of-returns-in-Seq g t c = grind (arith, common_steps, children)

pub value_of-returns-in-Any : goal.value_of-returns-in-Any
value_of-returns-in-Any g t c = grind (arith, common_steps, children)

pub value_of-returns-in-Both : goal.value_of-returns-in-Both
value_of-returns-in-Both g t c = grind (arith, common_steps, children)

pub value_under-returns : goal.value_under-returns
value_under-returns g t c = grind (arith, common_steps, items_shown)

pub value_of-returns-in_err-value_of-in-Times : goal.value_of-returns-in_err-value_of-in-Times
value_of-returns-in_err-value_of-in-Times g t c = if_ok-failed _ _ c.from_residual.ensures.0

pub value_of-returns-in-One : goal.value_of-returns-in-One
value_of-returns-in-One g t c = grind (arith, common_steps)

pub value_of-returns-in_ok-value_of-in-Times : goal.value_of-returns-in_ok-value_of-in-Times
value_of-returns-in_ok-value_of-in-Times g t c = grind (arith, common_steps)

pub value_under-returns-in_err-values : goal.value_under-returns-in_err-values
value_under-returns-in_err-values g t c = if_ok-failed _ _ c.from_residual.ensures.0

pub value_under-loop-child-init : goal.value_under-loop-child-init
value_under-loop-child-init g t c = grind (arith, common_steps)

pub value_under-offset_bounds-children-child-index : goal.value_under-offset_bounds-children-child-index
value_under-offset_bounds-children-child-index g t c = grind (arith, common_steps)

pub value_under-bounds-children-child-index : goal.value_under-bounds-children-child-index
value_under-bounds-children-child-index g t c = grind (arith, common_steps)

pub value_under-returns-in_err-value_of : goal.value_under-returns-in_err-value_of
value_under-returns-in_err-value_of g t c = if_ok-failed _ _ c.from_residual-in_err-value_of.ensures.0

pub value_under-returns-in_err-push : goal.value_under-returns-in_err-push
value_under-returns-in_err-push g t c = if_ok-failed _ _ c.from_residual-in_err-push.ensures.0

pub value_under-loop-child-smaller : goal.value_under-loop-child-smaller
value_under-loop-child-smaller g t c = omega arith

pub value_under-loop-child-preserved : goal.value_under-loop-child-preserved
value_under-loop-child-preserved g t c = grind (arith, common_steps)

pub value_of-value_under-requires : goal.value_of-value_under-requires
value_of-value_under-requires g t c = grind (the_lemmas, arith, common_steps)

pub value_of-value_under-requires-in-Any : goal.value_of-value_under-requires-in-Any
value_of-value_under-requires-in-Any g t c = grind (the_lemmas, arith, common_steps)

pub value_of-value_under-requires-in-Both : goal.value_of-value_under-requires-in-Both
value_of-value_under-requires-in-Both g t c = grind (the_lemmas, arith, common_steps)

pub value_of-value_of-requires : goal.value_of-value_of-requires
value_of-value_of-requires g t c = grind (the_lemmas, arith, common_steps)

pub value_under-value_of-requires : goal.value_under-value_of-requires
value_under-value_of-requires g t c = grind (the_lemmas, arith, common_steps)

pub value_under-list_value-requires-text-key : goal.value_under-list_value-requires-text-key
value_under-list_value-requires-text-key g t c = grind (the_lemmas, arith, common_steps)
