use Rattle.std.proofs.Common.{◌≡◌, drop}
use Rattle.scenario.specs.Tree.{plain_all}
use Rattle.scenario.specs.Taking.{all_end, some_ends}
use Rattle.scenario.proofs.looking.+ending.Given as goal

abbrev pub invariant-all_may_end-loop-child : goal.invariant-all_may_end-loop-child
invariant-all_may_end-loop-child g l = all_end (plain_all (drop l.child-index l.children)) ≡ all_end (plain_all l.children)

abbrev pub invariant-some_may_end-loop-child : goal.invariant-some_may_end-loop-child
invariant-some_may_end-loop-child g l = some_ends (plain_all (drop l.child-index l.children)) ≡ some_ends (plain_all l.children)
