-- Which tree a JSON value says, and which one a text.
use Rattle.std.specs.Prelude.{◌≡◌, ℕ, List, Some, ⊤}
use Rattle.std.specs.Str.{IsUtf8}
use Rattle.serde_json.specs.Data.{Data, Items, no_items, item}
use Rattle.serde_json.specs.Read.{read}
use Rattle.scenario.specs.Tree.{Tree, Trees, One, Seq, Any, Times, Both, Nil, Cons}
use Rattle.scenario.specs.Nodes.{one, seq, any, times, both, node_of}

abbrev mutual
  -- the value is a node of the tree's kind, and the values of its children say the tree's children
  pub Says : Data → Tree → Type 0
  Says d (One ask) = node_of d ≡ Some (one ask)
  Says d (Seq ts) = (ds : Items) × (node_of d ≡ Some (seq ds)) × SayEach ds ts
  Says d (Any ts) = (ds : Items) × (node_of d ≡ Some (any ds)) × SayEach ds ts
  Says d (Times n t) = (child : Data) × (node_of d ≡ Some (times n child)) × Says child t
  Says d (Both ts) = (ds : Items) × (node_of d ≡ Some (both ds)) × SayEach ds ts

  -- the values say these trees, one each, in order
  pub SayEach : Items → Trees → Type 0
  SayEach no_items Nil = ⊤
  SayEach no_items (Cons t ts) = ⊥
  SayEach (item d ds) Nil = ⊥
  SayEach (item d ds) (Cons t ts) = Says d t × SayEach ds ts

-- these bytes are JSON, and this is what they say
abbrev pub IsJson : List ℕ → Data → Type 0
IsJson bytes d = IsUtf8 bytes × (read bytes ≡ Some d)

-- these bytes are JSON that says this tree
abbrev pub IsTextOf : List ℕ → Tree → Type 0
IsTextOf bytes tree = (d : Data) × IsJson bytes d × Says d tree
