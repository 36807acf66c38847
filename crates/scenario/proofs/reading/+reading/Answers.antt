use Rattle.std.proofs.Common.{arith, map, rules, ◌≡◌, ◌<◌, Some, Ok, length, ap, sym, ◌∙◌}
use Rattle.std.proofs.lemmas.Grind.{common_steps}
use Rattle.serde_json.specs.View.{view, items_view}
use Rattle.scenario.specs.Tree.{plain}
use Rattle.scenario.specs.Nodes.{node_of, any}
use Rattle.scenario.proofs.Children.{plain-Any}
use Rattle.scenario.proofs.Walking.{walking, choice_level}
use Rattle.scenario.proofs.reading.+reading.Goals as goal

-- a choice of some values
pub scenario_at-returns-in_ok-scenarios_at-in-Some-Any : goal.scenario_at-returns-in_ok-scenarios_at-in-Some-Any
scenario_at-returns-in_ok-scenarios_at-in-Some-Any g t c =
    let form : node_of (view c.args.value.now) ≡ Some (any (items_view c.in-Some-Any.values.now)) = search rules in
    let some : 0 < length c.in-Some-Any.values.now = search rules in
    let level : 0 < c.args.levels = search rules in
    let children = c.in_ok-scenarios_at-in-Some-Any.field-0 in
    choice_level c.args.shape c.args.levels (view c.args.value.now) c.in-Some-Any.values.now (map plain children.items)
    level form some c.in_ok-scenarios_at-in-Some-Any.ensures
    ∙ ap Ok (sym (plain-Any children))

pub scenario_at-overflow_sub-levels : goal.scenario_at-overflow_sub-levels
scenario_at-overflow_sub-levels g t c = grind (arith, common_steps)

pub scenario_at-returns-in-None : goal.scenario_at-returns-in-None
scenario_at-returns-in-None g t c = grind (arith, walking)

pub scenario_at-returns-in-Some-Any-empty : goal.scenario_at-returns-in-Some-Any-empty
scenario_at-returns-in-Some-Any-empty g t c = grind (arith, common_steps, walking)

pub scenario_at-returns-in-Some-One : goal.scenario_at-returns-in-Some-One
scenario_at-returns-in-Some-One g t c = grind (arith, walking)

pub scenario_at-returns-in-Some-One-2 : goal.scenario_at-returns-in-Some-One-2
scenario_at-returns-in-Some-One-2 g t c = grind (arith, walking)

pub scenario_at-returns-in_err-child-in-Some-Times : goal.scenario_at-returns-in_err-child-in-Some-Times
scenario_at-returns-in_err-child-in-Some-Times g t c = grind (arith, walking)

pub scenario_at-returns-in_err-scenarios_at-in-Some-Any : goal.scenario_at-returns-in_err-scenarios_at-in-Some-Any
scenario_at-returns-in_err-scenarios_at-in-Some-Any g t c = grind (arith, walking)

pub scenario_at-returns-in_err-scenarios_at-in-Some-Both : goal.scenario_at-returns-in_err-scenarios_at-in-Some-Both
scenario_at-returns-in_err-scenarios_at-in-Some-Both g t c = grind (arith, walking)

pub scenario_at-returns-in_err-scenarios_at-in-Some-Seq : goal.scenario_at-returns-in_err-scenarios_at-in-Some-Seq
scenario_at-returns-in_err-scenarios_at-in-Some-Seq g t c = grind (arith, walking)

pub scenario_at-returns-in_err-times_in-in-Some-Times : goal.scenario_at-returns-in_err-times_in-in-Some-Times
scenario_at-returns-in_err-times_in-in-Some-Times g t c = grind (arith, walking)

pub scenario_at-returns-in_ok-scenarios_at-in-Some-Both : goal.scenario_at-returns-in_ok-scenarios_at-in-Some-Both
scenario_at-returns-in_ok-scenarios_at-in-Some-Both g t c = grind (arith, walking)

pub scenario_at-returns-in_ok-scenarios_at-in-Some-Seq : goal.scenario_at-returns-in_ok-scenarios_at-in-Some-Seq
scenario_at-returns-in_ok-scenarios_at-in-Some-Seq g t c = grind (arith, walking)

pub scenario_at-returns-in_ok-times_in-in-Some-Times : goal.scenario_at-returns-in_ok-times_in-in-Some-Times
scenario_at-returns-in_ok-times_in-in-Some-Times g t c = grind (arith, walking)

pub scenario_at-returns-then-levels-eq0 : goal.scenario_at-returns-then-levels-eq0
scenario_at-returns-then-levels-eq0 g t c = grind (arith, walking)

pub scenarios_at-loop-value-init : goal.scenarios_at-loop-value-init
scenarios_at-loop-value-init g t c = grind (arith, common_steps)

pub scenarios_at-loop-value-preserved : goal.scenarios_at-loop-value-preserved
scenarios_at-loop-value-preserved g t c = grind (arith, common_steps)

pub scenarios_at-loop-value-smaller : goal.scenarios_at-loop-value-smaller
scenarios_at-loop-value-smaller g t c = omega arith

pub scenarios_at-offset_bounds-values-value-index : goal.scenarios_at-offset_bounds-values-value-index
scenarios_at-offset_bounds-values-value-index g t c = grind (arith, common_steps)

pub scenarios_at-returns : goal.scenarios_at-returns
scenarios_at-returns g t c = grind (arith, common_steps, walking)

pub scenarios_at-returns-in_err-children : goal.scenarios_at-returns-in_err-children
scenarios_at-returns-in_err-children g t c = grind (arith, walking)

pub scenarios_at-returns-in_err-push : goal.scenarios_at-returns-in_err-push
scenarios_at-returns-in_err-push g t c = grind (arith, walking)

pub scenarios_at-returns-in_err-scenario_at : goal.scenarios_at-returns-in_err-scenario_at
scenarios_at-returns-in_err-scenario_at g t c = grind (arith, common_steps, walking)

pub scenario_at-scenario_at-requires : goal.scenario_at-scenario_at-requires
scenario_at-scenario_at-requires g t c = grind (arith, common_steps)

pub scenario_at-scenarios_at-requires : goal.scenario_at-scenarios_at-requires
scenario_at-scenarios_at-requires g t c = grind (arith, common_steps)

pub scenarios_at-scenario_at-requires : goal.scenarios_at-scenario_at-requires
scenarios_at-scenario_at-requires g t c = grind (arith, common_steps)

pub scenario_at-scenarios_at-requires-in-Some-Both : goal.scenario_at-scenarios_at-requires-in-Some-Both
scenario_at-scenarios_at-requires-in-Some-Both g t c = grind (arith, common_steps)

pub scenario_at-scenarios_at-requires-in-Some-Seq : goal.scenario_at-scenarios_at-requires-in-Some-Seq
scenario_at-scenarios_at-requires-in-Some-Seq g t c = grind (arith, common_steps)

pub scenarios_at-bounds-values-value-index : goal.scenarios_at-bounds-values-value-index
scenarios_at-bounds-values-value-index g t c = grind (arith, common_steps)
