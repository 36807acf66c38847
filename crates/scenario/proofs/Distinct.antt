-- A value says one tree at most, and so does a text.
use Rattle.std.proofs.Common.{◌≡◌, ◌≤◌, ◌+◌, ◌∙◌, ℕ, zero, suc, List, Option, Some, None}
use Rattle.std.proofs.Common.{option_map, option_and_then, refl, sym, subst, arith}
use Rattle.serde_json.specs.Data.{Data, Items, no_items, item}
use Rattle.scenario.specs.Tree.{Tree, Trees, One, Seq, Any, Times, Both, Nil, Cons}
use Rattle.scenario.specs.Limits.{depth, deepest}
use Rattle.scenario.specs.Nodes.{Node, one, seq, any, times, both, node_of}
use Rattle.scenario.specs.Says.{IsJson, IsTextOf, Says, SayEach}

-- the tree of a node, and those of some values, where that of each value is known
abbrev trees_of_each : (Data → Option Tree) → Items → Option Trees
trees_of_each tree no_items = Some Nil
trees_of_each tree (item d ds) = option_and_then (λ t. option_map (Cons t) (trees_of_each tree ds)) (tree d)

abbrev tree_of_node : (Data → Option Tree) → Node → Option Tree
tree_of_node tree (one ask) = Some (One ask)
tree_of_node tree (seq ds) = option_map Seq (trees_of_each tree ds)
tree_of_node tree (any ds) = option_map Any (trees_of_each tree ds)
tree_of_node tree (times n d) = option_map (Times n) (tree d)
tree_of_node tree (both ds) = option_map Both (trees_of_each tree ds)

-- the tree that a value says, if it has so many levels at most
abbrev tree_within : ℕ → Data → Option Tree
tree_within zero d = None
tree_within (suc levels) d = option_and_then (tree_of_node (tree_within levels)) (node_of d)

each-said : (levels : ℕ) → ((d : Data) (t : Tree) → depth t ≤ levels → Says d t → tree_within levels d ≡ Some t)
    → (ds : Items) (ts : Trees) → deepest ts ≤ levels → SayEach ds ts → trees_of_each (tree_within levels) ds ≡ Some ts
each-said levels said no_items Nil low say = refl
each-said levels said no_items (Cons t ts) low say = absurd say
each-said levels said (item d ds) Nil low say = absurd say
each-said levels said (item d ds) (Cons t ts) low say =
    rw (said d t (omega (arith, low)) say.0, each-said levels said ds ts (omega (arith, low)) say.1) refl

pub some-level : (t : Tree) → depth t ≤ 0 → ⊥
some-level (One ask) low = omega (arith, low)
some-level (Seq ts) low = omega (arith, low)
some-level (Any ts) low = omega (arith, low)
some-level (Times n t) low = omega (arith, low)
some-level (Both ts) low = omega (arith, low)

said-within : (levels : ℕ) (d : Data) (t : Tree) → depth t ≤ levels → Says d t → tree_within levels d ≡ Some t
said-within zero d t low say = absurd (some-level t low)
said-within (suc levels) d (One ask) low say = rw say refl
said-within (suc levels) d (Seq ts) low say = rw (say.1, each-said levels (said-within levels) say.0 ts (omega (arith, low)) say.2) refl
said-within (suc levels) d (Any ts) low say = rw (say.1, each-said levels (said-within levels) say.0 ts (omega (arith, low)) say.2) refl
said-within (suc levels) d (Times n t) low say = rw (say.1, said-within levels say.0 t (omega (arith, low)) say.2) refl
said-within (suc levels) d (Both ts) low say = rw (say.1, each-said levels (said-within levels) say.0 ts (omega (arith, low)) say.2) refl

some-one : {X : Type 0} (x y : X) → Some x ≡ Some y → x ≡ y
some-one x y is = cc

-- a value says one tree at most
pub says-one : (d : Data) (t u : Tree) → Says d t → Says d u → t ≡ u
says-one d t u a b =
    let levels = depth t + depth u in
    some-one t u (sym (said-within levels d t (omega arith) a) ∙ said-within levels d u (omega arith) b)

-- bytes say one value at most
pub json-one : (bytes : List ℕ) (d e : Data) → IsJson bytes d → IsJson bytes e → d ≡ e
json-one bytes d e a b = some-one d e (sym a.1 ∙ b.1)

-- and so one tree
pub text-one : (bytes : List ℕ) (t u : Tree) → IsTextOf bytes t → IsTextOf bytes u → t ≡ u
text-one bytes t u a b = says-one a.0 t u a.2 (subst (λ d. Says d u) (json-one bytes b.0 a.0 b.1 a.1) b.2)
