-- Scenarios as JSON values.
use Rattle.std.proofs.Common.{◌≡◌, List, [], ◌∷◌, map, refl, sym, ap, ◌∙◌}
use Rattle.serde_json.proofs.Views.{view-Array, view-Object}
use Rattle.serde_json.specs.Data.{item}
use Rattle.serde_json.specs.View.{view, items_view, items_of}
use Rattle.serde_json.specs.declared.value.Value.{Value}
use Rattle.scenario.specs.declared.tree.Scenario.{Scenario}
use Rattle.scenario.specs.Tree.{plain, plain_all}
use Rattle.scenario.specs.Shown.{shown, shown_all}

shown_items : {A : Type 0} (children : List (Scenario A)) → shown_all (plain_all children) ≡ items_of (map (λ s. shown (plain s)) children)
shown_items [] = refl
shown_items (s ∷ children) = ap (item (shown (plain s))) (shown_items children)

-- values that are those of the children, one by one, are as items those of the row
pub items_shown : {A : Type 0} (values : List Value) (children : List (Scenario A)) → map view values ≡ map (λ s. shown (plain s)) children
    → items_view values ≡ shown_all (plain_all children)
items_shown values children e = ap items_of e ∙ sym (shown_items children)

pub ruleset arrays = (view-Array, view-Object)
