use Rattle.std.proofs.Common.{arith}
use Rattle.std.proofs.lemmas.Grind.{common_steps}
use Rattle.scenario.proofs.Children.{children}
use Rattle.scenario.proofs.Lengths.{cut_product}
use Rattle.scenario.specs.declared.tree.Scenario.TheFolds.{the_lemmas}
use Rattle.scenario.proofs.measuring.+measuring.Goals as goal

pub greatest_length-loop-child-preserved : goal.greatest_length-loop-child-preserved
greatest_length-loop-child-preserved g t c = grind (arith, common_steps, children, cut_product)

pub greatest_length-returns : goal.greatest_length-returns
greatest_length-returns g t c = grind (arith, common_steps, children, cut_product)

pub longest_word-returns-in-One : goal.longest_word-returns-in-One
longest_word-returns-in-One g t c = grind (arith, common_steps, children, cut_product)

pub longest_word-returns-in-Any : goal.longest_word-returns-in-Any
longest_word-returns-in-Any g t c = grind (arith, common_steps, children, cut_product)

pub longest_word-returns-in-Times : goal.longest_word-returns-in-Times
longest_word-returns-in-Times g t c = grind (arith, common_steps, children, cut_product)

pub longest_word-returns-in-Seq : goal.longest_word-returns-in-Seq
longest_word-returns-in-Seq g t c = grind (arith, common_steps, children, cut_product)

pub total_length-loop-child-preserved : goal.total_length-loop-child-preserved
total_length-loop-child-preserved g t c = grind (arith, common_steps, children, cut_product)

pub total_length-returns : goal.total_length-returns
total_length-returns g t c = grind (arith, common_steps, children, cut_product)

pub greatest_length-loop-child-init : goal.greatest_length-loop-child-init
greatest_length-loop-child-init g t c = grind (arith, common_steps)

pub greatest_length-offset_bounds-children-child-index : goal.greatest_length-offset_bounds-children-child-index
greatest_length-offset_bounds-children-child-index g t c = grind (arith, common_steps)

pub greatest_length-loop-child-smaller : goal.greatest_length-loop-child-smaller
greatest_length-loop-child-smaller g t c = omega arith

pub longest_word-overflow_mul-from : goal.longest_word-overflow_mul-from
longest_word-overflow_mul-from g t c = grind (arith, common_steps)

pub total_length-loop-child-init : goal.total_length-loop-child-init
total_length-loop-child-init g t c = grind (arith, common_steps)

pub total_length-offset_bounds-children-child-index : goal.total_length-offset_bounds-children-child-index
total_length-offset_bounds-children-child-index g t c = grind (arith, common_steps)

pub total_length-overflow_add-length : goal.total_length-overflow_add-length
total_length-overflow_add-length g t c = grind (arith, common_steps)

pub total_length-loop-child-smaller : goal.total_length-loop-child-smaller
total_length-loop-child-smaller g t c = omega arith

pub greatest_length-longest_word-requires : goal.greatest_length-longest_word-requires
greatest_length-longest_word-requires g t c = grind (the_lemmas, arith, common_steps)

pub longest_word-greatest_length-requires : goal.longest_word-greatest_length-requires
longest_word-greatest_length-requires g t c = grind (the_lemmas, arith, common_steps)

pub longest_word-longest_word-requires : goal.longest_word-longest_word-requires
longest_word-longest_word-requires g t c = grind (the_lemmas, arith, common_steps)

pub longest_word-total_length-requires : goal.longest_word-total_length-requires
longest_word-total_length-requires g t c = grind (the_lemmas, arith, common_steps)

pub total_length-longest_word-requires : goal.total_length-longest_word-requires
total_length-longest_word-requires g t c = grind (the_lemmas, arith, common_steps)
