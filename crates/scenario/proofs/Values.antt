-- What the reading of JSON values counts.
use Rattle.std.proofs.Common.{◌≡◌, List, [], ◌∷◌, refl, ap, suc, String, Global, length}
use Rattle.serde_json.specs.View.{items_view, members_view}
use Rattle.serde_json.specs.Events.{items_len, members_len}
use Rattle.serde_json.specs.declared.value.Value.{Value}

-- the members of an object are as many as its entries
pub members_count : (es : List (String Global × Value)) → members_len (members_view es) ≡ length es
members_count [] = refl
members_count (e ∷ es) = ap suc (members_count es)

-- the items of an array are as many as its values
pub items_count : (vs : List Value) → items_len (items_view vs) ≡ length vs
items_count [] = refl
items_count (v ∷ vs) = ap suc (items_count vs)

pub ruleset counts = (members_count, items_count)
