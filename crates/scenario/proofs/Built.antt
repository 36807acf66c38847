-- The tree that is built of a value is the one that the value says.
use Rattle.std.proofs.Common.{◌≡◌, ◌≤◌, ◌<◌, ◌++◌, ◌∙◌, ◌&&◌, ℕ, zero, suc, List, [], ◌∷◌, Bool, true, false}
use Rattle.std.proofs.Common.{nat_lt, if◌then◌else◌, Option, Some, None, Result, Ok, Err, append_assoc, refl, sym, subst, arith}
use Rattle.std.proofs.lemmas.List.{append-nil}
use Rattle.std.specs.Prelude.{⊤}
use Rattle.serde_json.specs.Data.{Data, Items, no_items, item}
use Rattle.base.specs.declared.step.CoreAsk.{CoreAsk}
use Rattle.base.specs.Extent.{Extent}
use Rattle.scenario.specs.Tree.{Tree, One, Seq, Any, Times, Both, trees_of}
use Rattle.scenario.specs.Limits.{depth, deepest, Throughout, InEach, HasChoice, IsInShape}
use Rattle.scenario.specs.Nodes.{Node, one, seq, any, times, both, node_of}
use Rattle.scenario.specs.Says.{Says, SayEach}
use Rattle.scenario.specs.Refusals.{is_in_shape}
use Rattle.scenario.specs.inner.Walk.{tree_at, tree_of, trees_behind, over}
use Rattle.scenario.specs.declared.reading.ScenarioFault.{ScenarioFault}
use Rattle.scenario.specs.declared.reading.ScenarioFault.TheVariants.{OutOfShape}

-- what is built of a value
abbrev pub IsBuilt : Extent → ℕ → Data → Result Tree ScenarioFault → Type 0
IsBuilt shape levels d (Ok t) = Says d t × (depth t ≤ levels) × Throughout HasChoice t × Throughout (IsInShape shape) t
IsBuilt shape levels d (Err fault) = ⊤

abbrev AreSaid : Extent → ℕ → Items → List Tree → Type 0
AreSaid shape levels ds ts = SayEach ds (trees_of ts) × (deepest (trees_of ts) ≤ levels) × InEach HasChoice (trees_of ts)
    × InEach (IsInShape shape) (trees_of ts)

abbrev AreBuilt : Extent → ℕ → List Tree → Items → Result (List Tree) ScenarioFault → Type 0
AreBuilt shape levels before ds (Ok ts) = (behind : List Tree) × (ts ≡ before ++ behind) × AreSaid shape levels ds behind
AreBuilt shape levels before ds (Err fault) = ⊤

one-more : (shape : Extent) (levels : ℕ) (before : List Tree) (t : Tree) (d : Data) (ds : Items) (r : Result (List Tree) ScenarioFault)
    → IsBuilt shape levels d (Ok t) → AreBuilt shape levels (before ++ t ∷ []) ds r → AreBuilt shape levels before (item d ds) r
one-more shape levels before t d ds (Err fault) a b = tt
one-more shape levels before t d ds (Ok ts) a b =
    (t ∷ b.0, b.1 ∙ append_assoc before (t ∷ []) b.0, ((a.0, b.2.0), omega (arith, a.1, b.2.1), (a.2, b.2.2), (a.3, b.2.3)))

next-built : (shape : Extent) (levels : ℕ) (before : List Tree) (d : Data) (ds : Items) (r : Result Tree ScenarioFault)
    (next : Tree → Result (List Tree) ScenarioFault)
    → IsBuilt shape levels d r → ((t : Tree) → AreBuilt shape levels (before ++ t ∷ []) ds (next t))
    → AreBuilt shape levels before (item d ds) (elim r [ Ok t ↦ next t | Err fault ↦ Err fault ])
next-built shape levels before d ds (Ok t) next a b = one-more shape levels before t d ds (next t) a (b t)
next-built shape levels before d ds (Err fault) next a b = tt

-- what is built of each value at a level
abbrev Builds : Extent → ℕ → (Data → Result Tree ScenarioFault) → Type 0
Builds shape levels tree = (d : Data) → IsBuilt shape levels d (tree d)

behind-built : (shape : Extent) (levels : ℕ) (tree : Data → Result Tree ScenarioFault) → Builds shape levels tree
    → (before : List Tree) (ds : Items) → AreBuilt shape levels before ds (trees_behind tree before ds)
behind-built shape levels tree each before no_items = ([], sym (append-nil before), (tt, omega arith, tt, tt))
behind-built shape levels tree each before (item d ds) =
    next-built shape levels before d ds (tree d) (λ t. trees_behind tree (before ++ t ∷ []) ds) (each d)
    (λ t. behind-built shape levels tree each (before ++ t ∷ []) ds)

from-none : (shape : Extent) (levels : ℕ) (ds : Items) (ts : List Tree) → AreBuilt shape levels [] ds (Ok ts) → AreSaid shape levels ds ts
from-none shape levels ds ts b = subst (AreSaid shape levels ds) (sym b.1) b.2

seq-built : (shape : Extent) (levels : ℕ) (d : Data) (ds : Items) (r : Result (List Tree) ScenarioFault) → node_of d ≡ Some (seq ds)
    → AreBuilt shape levels [] ds r → IsBuilt shape (suc levels) d (over (λ ts. Seq (trees_of ts)) r)
seq-built shape levels d ds (Err fault) is b = tt
seq-built shape levels d ds (Ok ts) is b = let h = from-none shape levels ds ts b in ((ds, is, h.0), omega (arith, h.1), (tt, h.2), (tt, h.3))

both-built : (shape : Extent) (levels : ℕ) (d : Data) (ds : Items) (r : Result (List Tree) ScenarioFault) → node_of d ≡ Some (both ds)
    → AreBuilt shape levels [] ds r → IsBuilt shape (suc levels) d (over (λ ts. Both (trees_of ts)) r)
both-built shape levels d ds (Err fault) is b = tt
both-built shape levels d ds (Ok ts) is b = let h = from-none shape levels ds ts b in ((ds, is, h.0), omega (arith, h.1), (tt, h.2), (tt, h.3))

some-choice : (d : Data) (ds : Items) (ts : List Tree) → SayEach (item d ds) (trees_of ts) → HasChoice (Any (trees_of ts))
some-choice d ds [] say = absurd say
some-choice d ds (t ∷ ts) say = tt

any-built : (shape : Extent) (levels : ℕ) (d e : Data) (ds : Items) (r : Result (List Tree) ScenarioFault) → node_of d ≡ Some (any (item e ds))
    → AreBuilt shape levels [] (item e ds) r → IsBuilt shape (suc levels) d (over (λ ts. Any (trees_of ts)) r)
any-built shape levels d e ds (Err fault) is b = tt
any-built shape levels d e ds (Ok ts) is b =
    let h = from-none shape levels (item e ds) ts b in
    ((item e ds, is, h.0), omega (arith, h.1), (some-choice e ds ts h.0, h.2), (tt, h.3))

times-built : (shape : Extent) (levels n : ℕ) (d child : Data) (r : Result Tree ScenarioFault) → node_of d ≡ Some (times n child)
    → IsBuilt shape levels child r → IsBuilt shape (suc levels) d (over (Times n) r)
times-built shape levels n d child (Err fault) is b = tt
times-built shape levels n d child (Ok t) is b = ((child, is, b.0), omega (arith, b.1), (tt, b.2), (tt, b.3))

in-shape : (a b c d : ℕ) → (nat_lt a b && nat_lt c d) ≡ true → (a < b) × (c < d)
in-shape a b c d is = grind (arith)

ask-built : (shape : Extent) (levels : ℕ) (d : Data) (ask : CoreAsk) (b : Bool) → is_in_shape shape ask ≡ b → node_of d ≡ Some (one ask)
    → IsBuilt shape (suc levels) d (if b then Ok (One ask) else Err OutOfShape)
ask-built shape levels d ask true in_it is = (is, omega arith, tt, in-shape ask.core.0 shape.caches ask.block.0 shape.blocks in_it)
ask-built shape levels d ask false in_it is = tt

node-built : (shape : Extent) (levels : ℕ) (tree : Data → Result Tree ScenarioFault) → Builds shape levels tree
    → (d : Data) (o : Option Node) → node_of d ≡ o → IsBuilt shape (suc levels) d (tree_of shape tree o)
node-built shape levels tree each d None is = tt
node-built shape levels tree each d (Some (one ask)) is = ask-built shape levels d ask _ refl is
node-built shape levels tree each d (Some (seq ds)) is = seq-built shape levels d ds _ is (behind-built shape levels tree each [] ds)
node-built shape levels tree each d (Some (any no_items)) is = tt
node-built shape levels tree each d (Some (any (item e ds))) is = any-built shape levels d e ds _ is (behind-built shape levels tree each [] (item e ds))
node-built shape levels tree each d (Some (times n child)) is = times-built shape levels n d child _ is (each child)
node-built shape levels tree each d (Some (both ds)) is = both-built shape levels d ds _ is (behind-built shape levels tree each [] ds)

-- what is built of a value is said by it, has no more levels than there were, and is within the limits that were tested
pub tree-built : (shape : Extent) (levels : ℕ) (d : Data) → IsBuilt shape levels d (tree_at shape levels d)
tree-built shape zero d = tt
tree-built shape (suc levels) d = node-built shape levels (tree_at shape levels) (tree-built shape levels) d (node_of d) refl
