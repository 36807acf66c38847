use Rattle.std.proofs.Common.{◌≡◌, ◌++◌, drop, map}
use Rattle.lanes.specs.inner.Kept.{listed_in}
use Rattle.lanes.proofs.lanes.making.marks_of.Given as goal

abbrev pub invariant-loop-lane : goal.invariant-loop-lane
invariant-loop-lane g l = l.marks.items ++ map (λ x. x.unheld) (listed_in (drop l.lane-index l.lanes)) ≡ map (λ x. x.unheld) (listed_in l.lanes)
