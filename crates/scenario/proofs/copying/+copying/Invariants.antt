use Rattle.std.proofs.Common.{◌≡◌, take, map}
use Rattle.scenario.specs.Tree.{plain}
use Rattle.scenario.proofs.copying.+copying.Given as goal

abbrev pub invariant-copy_all-loop-child : goal.invariant-copy_all-loop-child
invariant-copy_all-loop-child g l = map plain l.copies.items ≡ map plain (take l.child-index l.children)
