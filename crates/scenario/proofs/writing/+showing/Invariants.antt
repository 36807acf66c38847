use Rattle.std.proofs.Common.{◌≡◌, map, take}
use Rattle.serde_json.specs.View.{view}
use Rattle.scenario.specs.Tree.{plain}
use Rattle.scenario.specs.Shown.{shown}
use Rattle.scenario.proofs.writing.+showing.Given as goal

-- the values so far are those of the children so far
abbrev pub invariant-value_under-loop-child : goal.invariant-value_under-loop-child
invariant-value_under-loop-child g l = map view l.values.items ≡ map (λ s. shown (plain s)) (take l.child-index l.children)
