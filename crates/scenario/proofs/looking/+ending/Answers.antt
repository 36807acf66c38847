use Rattle.std.proofs.Common.{arith}
use Rattle.std.proofs.lemmas.Grind.{common_steps}
use Rattle.scenario.proofs.Children.{children}
use Rattle.scenario.specs.declared.tree.Scenario.TheFolds.{the_lemmas}
use Rattle.scenario.proofs.looking.+ending.Goals as goal

pub all_may_end-returns-then-not-tree_may_end : goal.all_may_end-returns-then-not-tree_may_end
all_may_end-returns-then-not-tree_may_end g t c = grind (arith, common_steps)

pub all_may_end-loop-child-preserved : goal.all_may_end-loop-child-preserved
all_may_end-loop-child-preserved g t c = grind (arith, common_steps)

pub all_may_end-returns : goal.all_may_end-returns
all_may_end-returns g t c = grind (arith, common_steps)

pub some_may_end-returns-then-tree_may_end : goal.some_may_end-returns-then-tree_may_end
some_may_end-returns-then-tree_may_end g t c = grind (arith, common_steps)

pub some_may_end-loop-child-preserved : goal.some_may_end-loop-child-preserved
some_may_end-loop-child-preserved g t c = grind (arith, common_steps)

pub some_may_end-returns : goal.some_may_end-returns
some_may_end-returns g t c = grind (arith, common_steps)

pub tree_may_end-returns-in-Any : goal.tree_may_end-returns-in-Any
tree_may_end-returns-in-Any g t c = grind (arith, children)

pub tree_may_end-returns-in-Seq : goal.tree_may_end-returns-in-Seq
tree_may_end-returns-in-Seq g t c = grind (arith, children)

pub all_may_end-loop-child-init : goal.all_may_end-loop-child-init
all_may_end-loop-child-init g t c = grind (arith, common_steps)

pub all_may_end-offset_bounds-children-child-index : goal.all_may_end-offset_bounds-children-child-index
all_may_end-offset_bounds-children-child-index g t c = grind (arith, common_steps)

pub all_may_end-loop-child-smaller : goal.all_may_end-loop-child-smaller
all_may_end-loop-child-smaller g t c = omega arith

pub some_may_end-loop-child-init : goal.some_may_end-loop-child-init
some_may_end-loop-child-init g t c = grind (arith, common_steps)

pub some_may_end-offset_bounds-children-child-index : goal.some_may_end-offset_bounds-children-child-index
some_may_end-offset_bounds-children-child-index g t c = grind (arith, common_steps)

pub some_may_end-loop-child-smaller : goal.some_may_end-loop-child-smaller
some_may_end-loop-child-smaller g t c = omega arith

pub tree_may_end-returns-in-One : goal.tree_may_end-returns-in-One
tree_may_end-returns-in-One g t c = grind (arith, common_steps)

pub tree_may_end-returns-then-turns-eq0 : goal.tree_may_end-returns-then-turns-eq0
tree_may_end-returns-then-turns-eq0 g t c = grind (arith, common_steps)

pub tree_may_end-returns-else-turns-eq0 : goal.tree_may_end-returns-else-turns-eq0
tree_may_end-returns-else-turns-eq0 g t c = grind (arith, common_steps)

pub all_may_end-tree_may_end-requires : goal.all_may_end-tree_may_end-requires
all_may_end-tree_may_end-requires g t c = grind (the_lemmas, arith, common_steps)

pub some_may_end-tree_may_end-requires : goal.some_may_end-tree_may_end-requires
some_may_end-tree_may_end-requires g t c = grind (the_lemmas, arith, common_steps)

pub tree_may_end-some_may_end-requires : goal.tree_may_end-some_may_end-requires
tree_may_end-some_may_end-requires g t c = grind (the_lemmas, arith, common_steps)

pub tree_may_end-tree_may_end-requires : goal.tree_may_end-tree_may_end-requires
tree_may_end-tree_may_end-requires g t c = grind (the_lemmas, arith, common_steps)

pub tree_may_end-all_may_end-requires : goal.tree_may_end-all_may_end-requires
tree_may_end-all_may_end-requires g t c = grind (the_lemmas, arith, common_steps)
