use Rattle.std.proofs.Common.{◌≡◌, ◌++◌, drop, take}
use Rattle.scenario.specs.Tree.{trees_of}
use Rattle.lanes.specs.Fitting.{EachFits}
use Rattle.lanes.specs.inner.Kept.{plain_each, stocks_in, trees_in}
use Rattle.lanes.proofs.lanes.making.lanes_of.Given as goal

abbrev pub invariant-loop-tree : goal.invariant-loop-tree
invariant-loop-tree g l =
    (trees_in l.lanes.items ++ plain_each (drop l.tree-index l.sources) ≡ plain_each l.sources)
    × EachFits (stocks_in l.lanes.items) (trees_of (plain_each (take l.tree-index l.sources)))
