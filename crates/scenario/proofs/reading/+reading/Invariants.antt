use Rattle.std.proofs.Common.{◌≡◌, ◌+◌, ◌*◌, [], map, drop}
use Rattle.serde_json.specs.View.{items_view}
use Rattle.scenario.specs.Tree.{plain}
use Rattle.scenario.specs.inner.Walk.{tree_at, trees_behind}
use Rattle.scenario.proofs.reading.+reading.Given as goal

-- behind the children so far, the values behind them are those that all values are
abbrev pub invariant-scenarios_at-loop-value : goal.invariant-scenarios_at-loop-value
invariant-scenarios_at-loop-value g l =
    trees_behind (tree_at l.shape l.levels) (map plain l.children.items) (items_view (drop l.value-index l.values))
    ≡ trees_behind (tree_at l.shape l.levels) [] (items_view l.values)

abbrev pub decreases-scenario_at : goal.decreases-scenario_at
decreases-scenario_at g a = 2 * a.levels

abbrev pub decreases-scenarios_at : goal.decreases-scenarios_at
decreases-scenarios_at g a = 2 * a.levels + 1
