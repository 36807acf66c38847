-- For private clauses: how a value's tree is built, or its first fault found, on the way down.
use Rattle.std.specs.Prelude.{◌≡◌, ℕ, zero, suc, List, [], ◌∷◌, ◌++◌, if◌then◌else◌, Option, Some, None, Result, Ok, Err}
use Rattle.serde_json.specs.Data.{Data, Items, no_items, item}
use Rattle.serde_json.specs.View.{view, items_view}
use Rattle.base.specs.Extent.{Extent}
use Rattle.scenario.specs.Tree.{Tree, One, Seq, Any, Times, Both, trees_of}
use Rattle.scenario.specs.Nodes.{Node, one, seq, any, times, both, node_of}
use Rattle.scenario.specs.Refusals.{is_in_shape}
use Rattle.scenario.specs.declared.reading.ScenarioFault.{ScenarioFault}
use Rattle.scenario.specs.declared.reading.ScenarioFault.TheVariants.{BadShape, EmptyAny, TooDeep, OutOfShape, NoMemory}
use Rattle.scenario.specs.declared.forms.NodeForm.{NodeForm}
use Rattle.scenario.specs.declared.forms.NodeForm.TheVariants as form

-- the node that a form is, without where it lies
abbrev pub form_node : NodeForm → Node
form_node (form.One ask) = one ask
form_node (form.Seq values) = seq (items_view values.now)
form_node (form.Any values) = any (items_view values.now)
form_node (form.Times n value) = times n (view value.now)
form_node (form.Both values) = both (items_view values.now)

-- behind the trees so far, those of the items, in order
abbrev pub trees_behind : (Data → Result Tree ScenarioFault) → List Tree → Items → Result (List Tree) ScenarioFault
trees_behind tree before no_items = Ok before
trees_behind tree before (item d ds) = elim (tree d) [
  | Ok t ↦ trees_behind tree (before ++ t ∷ []) ds
  | Err fault ↦ Err fault
]

-- a tree of these children
abbrev pub over : {X : Type 0} → (X → Tree) → Result X ScenarioFault → Result Tree ScenarioFault
over make (Ok x) = Ok (make x)
over make (Err fault) = Err fault

-- the tree of a node, where there is one, and where what is built of each child's value is known
abbrev pub tree_of : Extent → (Data → Result Tree ScenarioFault) → Option Node → Result Tree ScenarioFault
tree_of shape tree None = Err BadShape
tree_of shape tree (Some (one ask)) = if is_in_shape shape ask then Ok (One ask) else Err OutOfShape
tree_of shape tree (Some (seq ds)) = over (λ ts. Seq (trees_of ts)) (trees_behind tree [] ds)
tree_of shape tree (Some (any no_items)) = Err EmptyAny
tree_of shape tree (Some (any (item d ds))) = over (λ ts. Any (trees_of ts)) (trees_behind tree [] (item d ds))
tree_of shape tree (Some (times n d)) = over (Times n) (tree d)
tree_of shape tree (Some (both ds)) = over (λ ts. Both (trees_of ts)) (trees_behind tree [] ds)

-- what is built of a value, where so many levels are left for it
abbrev pub tree_at : Extent → ℕ → Data → Result Tree ScenarioFault
tree_at shape zero d = Err TooDeep
tree_at shape (suc levels) d = tree_of shape (tree_at shape levels) (node_of d)

-- a result has this meaning, where memory doesn't run out
abbrev pub Gives : {X Y : Type 0} → (X → Y) → Result X ScenarioFault → Result Y ScenarioFault → Type 0
Gives meaning (Ok x) expected = expected ≡ Ok (meaning x)
Gives meaning (Err NoMemory) expected = Unit {0}
Gives meaning (Err fault) expected = expected ≡ Err fault
