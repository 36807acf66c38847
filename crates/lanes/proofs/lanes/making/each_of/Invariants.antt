use Rattle.std.proofs.Common.{◌≡◌, ◌++◌, drop, map}
use Rattle.scenario.specs.Tree.{plain}
use Rattle.lanes.specs.inner.Kept.{plain_each}
use Rattle.lanes.proofs.lanes.making.each_of.Given as goal

abbrev pub invariant-loop-tree : goal.invariant-loop-tree
invariant-loop-tree g l = plain_each l.sources.items ++ map plain (drop l.tree-index l.trees) ≡ map plain l.trees
