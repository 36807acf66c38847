-- The first fault of a JSON value that is no scenario of a shape.
use Rattle.std.specs.Prelude.{◌≡◌, ◌<◌, ℕ, zero, suc, List, [], ◌∷◌, ◌++◌, Bool, ◌&&◌}
use Rattle.std.specs.Prelude.{nat_lt, if◌then◌else◌, Option, Some, None, ⊤}
use Rattle.serde_json.specs.Data.{Data, Items, no_items, item}
use Rattle.base.specs.declared.step.CoreAsk.{CoreAsk}
use Rattle.base.specs.Extent.{Extent}
use Rattle.scenario.specs.Tree.{Tree}
use Rattle.scenario.specs.Limits.{longest}
use Rattle.scenario.specs.Nodes.{Node, one, seq, any, times, both, node_of, or_else}
use Rattle.scenario.specs.Says.{IsJson, Says}
use Rattle.scenario.specs.declared.reading.ScenarioFault.{ScenarioFault}
use Rattle.scenario.specs.declared.reading.ScenarioFault.TheVariants.{NotJson, BadShape, EmptyAny, TooDeep, TooLong, OutOfShape, NoMemory}

-- the children of a node, in order
abbrev pub node_children : Node → Items
node_children (one ask) = no_items
node_children (seq ds) = ds
node_children (any ds) = ds
node_children (times n d) = item d no_items
node_children (both ds) = ds

-- what is no node has no children
abbrev pub children : Data → Items
children d = elim (node_of d) [
  | None ↦ no_items
  | Some node ↦ node_children node
]

-- whether an ask is put by a core of the shape, to a block of the shape
abbrev pub is_in_shape : Extent → CoreAsk → Bool
is_in_shape shape ask = nat_lt ask.core.0 shape.caches && nat_lt ask.block.0 shape.blocks

-- the fault of a node
abbrev pub fault_of : Extent → Node → Option ScenarioFault
fault_of shape (one ask) = if is_in_shape shape ask then None else Some OutOfShape
fault_of shape (seq ds) = None
fault_of shape (any no_items) = Some EmptyAny
fault_of shape (any (item d ds)) = None
fault_of shape (times n d) = None
fault_of shape (both ds) = None

-- the fault of one value, where so many levels are left for it and what is under it
abbrev pub fault_at : Extent → ℕ → Data → Option ScenarioFault
fault_at shape zero d = Some TooDeep
fault_at shape (suc levels) d = elim (node_of d) [
  | None ↦ Some BadShape
  | Some node ↦ fault_of shape node
]

-- a value, and how many levels are left for it and what is under it
abbrev pub Visit : Type 0
Visit = ℕ × Data

-- what is visited of each item, in order
abbrev pub visited_in : (Data → List Visit) → Items → List Visit
visited_in visits no_items = []
visited_in visits (item d ds) = visits d ++ visited_in visits ds

-- the values, each before its children and these in order; where no level is left, what is under a value isn't looked at
abbrev pub visited : ℕ → Data → List Visit
visited zero d = (zero, d) ∷ []
visited (suc levels) d = (suc levels, d) ∷ visited_in (visited levels) (children d)

-- the first thing that is there
abbrev pub first_some : {X Y : Type 0} → (X → Option Y) → List X → Option Y
first_some f [] = None
first_some f (x ∷ xs) = or_else (f x) (first_some f xs)

-- the first fault of the values visited, of which there may be 48 levels
unfoldable pub first_fault : Extent → Data → Option ScenarioFault
first_fault shape d = first_some (λ visit. fault_at shape visit.0 visit.1) (visited 48 d)

-- why these bytes are no scenario of the shape. A tree without another fault may have too long words.
abbrev pub IsRefusal : Extent → List ℕ → ScenarioFault → Type 0
IsRefusal shape bytes NotJson = (d : Data) → ¬ IsJson bytes d
IsRefusal shape bytes TooLong = (d : Data) × (t : Tree) × IsJson bytes d × Says d t × (first_fault shape d ≡ None) × (1000000 < longest t)
IsRefusal shape bytes NoMemory = ⊤
IsRefusal shape bytes fault = (d : Data) × IsJson bytes d × (first_fault shape d ≡ Some fault)
