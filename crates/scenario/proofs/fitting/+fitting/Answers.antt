use Rattle.std.proofs.Common.{arith}
use Rattle.std.proofs.lemmas.Grind.{common_steps}
use Rattle.scenario.specs.declared.tree.Scenario.TheFolds.{the_lemmas}
use Rattle.scenario.proofs.Children.{children}
use Rattle.scenario.proofs.fitting.+fitting.Goals as goal

pub read_numbers-returns-in-One : goal.read_numbers-returns-in-One
read_numbers-returns-in-One g t c = grind (arith, common_steps, children)

pub read_numbers-returns-in-Seq : goal.read_numbers-returns-in-Seq
read_numbers-returns-in-Seq g t c = grind (arith, common_steps, children)

pub read_numbers-returns-in-Times : goal.read_numbers-returns-in-Times
read_numbers-returns-in-Times g t c = grind (arith, common_steps, children)

pub read_all_numbers-returns : goal.read_all_numbers-returns
read_all_numbers-returns g t c = grind (arith, common_steps, children)

pub read_all_numbers-loop-child-init : goal.read_all_numbers-loop-child-init
read_all_numbers-loop-child-init g t c = grind (arith, common_steps, children)

pub read_all_numbers-loop-child-preserved : goal.read_all_numbers-loop-child-preserved
read_all_numbers-loop-child-preserved g t c = grind (arith, common_steps, children)

pub read_all_numbers-loop-child-smaller : goal.read_all_numbers-loop-child-smaller
read_all_numbers-loop-child-smaller g t c = grind (arith, common_steps, children)

pub read_all_numbers-offset_bounds-children-child-index : goal.read_all_numbers-offset_bounds-children-child-index
read_all_numbers-offset_bounds-children-child-index g t c = grind (arith, common_steps, children)

pub read_all_numbers-read_numbers-requires : goal.read_all_numbers-read_numbers-requires
read_all_numbers-read_numbers-requires g t c = grind (the_lemmas, arith, common_steps)

pub read_numbers-read_all_numbers-requires : goal.read_numbers-read_all_numbers-requires
read_numbers-read_all_numbers-requires g t c = grind (the_lemmas, arith, common_steps)

pub read_numbers-read_numbers-requires : goal.read_numbers-read_numbers-requires
read_numbers-read_numbers-requires g t c = grind (the_lemmas, arith, common_steps)
