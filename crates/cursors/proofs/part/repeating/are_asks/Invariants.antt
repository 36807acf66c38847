use Rattle.std.proofs.Common.{◌≡◌, drop}
use Rattle.scenario.specs.Tree.{plain_all}
use Rattle.cursors.specs.inner.Turns.{all_asks}
use Rattle.cursors.proofs.part.repeating.are_asks.Given as goal

abbrev pub invariant-loop-child : goal.invariant-loop-child
invariant-loop-child g l = all_asks (plain_all (drop l.child-index l.children)) ≡ all_asks (plain_all l.children)
