use Rattle.std.proofs.Common.{◌≡◌, length, take}
use Rattle.scenario.specs.Tree.{trees_of}
use Rattle.lanes.specs.Fitting.{EachFits}
use Rattle.lanes.specs.inner.Kept.{listed_in, plain_each, stocks_in, trees_in}
use Rattle.lanes.proofs.lanes.making.restart_all.Given as goal

abbrev pub invariant-loop-number : goal.invariant-loop-number
invariant-loop-number g l = record {
  count : length l.lanes.items ≡ length l.fn.lanes.items;
  done : trees_in (take l.number l.lanes.items) ≡ plain_each (take l.number l.sources);
  same : listed_in l.lanes.items ≡ listed_in l.fn.lanes.items;
  fits : EachFits (stocks_in l.fn.lanes.items) (trees_of (plain_each l.sources)) →
      EachFits (stocks_in l.lanes.items) (trees_of (plain_each l.sources));
}
