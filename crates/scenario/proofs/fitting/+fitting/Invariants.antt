use Rattle.std.proofs.Common.{drop}
use Rattle.scenario.specs.Tree.{plain_all}
use Rattle.scenario.specs.Limits.{FitsTypes, InEach}
use Rattle.scenario.proofs.fitting.+fitting.Given as goal

-- all numbers fit as soon as those of the children that are left do
abbrev pub invariant-read_all_numbers-loop-child : goal.invariant-read_all_numbers-loop-child
invariant-read_all_numbers-loop-child g l = InEach FitsTypes (plain_all (drop l.child-index l.children)) → InEach FitsTypes (plain_all l.children)
