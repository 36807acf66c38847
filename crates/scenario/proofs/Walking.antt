-- The levels that are left on the way down.
use Rattle.std.proofs.Common.{◌≡◌, ◌-◌, ◌<◌, ℕ, zero, suc, refl, ap, arith, List, [], ◌∷◌, length, Some, Result, Ok, ◌∙◌}
use Rattle.serde_json.specs.Data.{Data}
use Rattle.serde_json.specs.View.{items_view}
use Rattle.serde_json.specs.declared.value.Value.{Value}
use Rattle.base.specs.Extent.{Extent}
use Rattle.scenario.specs.Tree.{Tree, Any, trees_of}
use Rattle.scenario.specs.Nodes.{node_of, any}
use Rattle.scenario.specs.inner.Walk.{tree_at, tree_of, trees_behind, over}
use Rattle.scenario.specs.declared.reading.ScenarioFault.{ScenarioFault}
use Rattle.scenario.proofs.Children.{plain-Seq, plain-Any, plain-Both}

pub tree_at_level : (shape : Extent) (n : ℕ) (d : Data) → 0 < n → tree_at shape n d ≡ tree_of shape (tree_at shape (n - 1)) (node_of d)
tree_at_level shape zero d p = absurd (omega arith)
tree_at_level shape (suc n) d p = let e : n ≡ suc n - 1 = omega arith in ap (λ k. tree_of shape (tree_at shape k) (node_of d)) e

-- a choice of some values isn't one of none
pub tree_of_choice : (shape : Extent) (tree : Data → Result Tree ScenarioFault) (vs : List Value) → 0 < length vs →
    tree_of shape tree (Some (any (items_view vs))) ≡ over (λ ts. Any (trees_of ts)) (trees_behind tree [] (items_view vs))
tree_of_choice shape tree [] p = absurd (omega arith)
tree_of_choice shape tree (v ∷ vs) p = refl

-- what a choice of some values is built of
pub choice_level : (shape : Extent) (n : ℕ) (d : Data) (vs : List Value) (ts : List Tree) → 0 < n
    → node_of d ≡ Some (any (items_view vs)) → 0 < length vs
    → trees_behind (tree_at shape (n - 1)) [] (items_view vs) ≡ Ok ts → tree_at shape n d ≡ Ok (Any (trees_of ts))
choice_level shape n d vs ts level form some below =
    tree_at_level shape n d level ∙ ap (tree_of shape (tree_at shape (n - 1))) form ∙ tree_of_choice shape (tree_at shape (n - 1)) vs some
    ∙ ap (over (λ us. Any (trees_of us))) below

pub ruleset walking = (tree_at_level, tree_of_choice, plain-Seq, plain-Any, plain-Both)
