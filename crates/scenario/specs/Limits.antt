-- How deep a tree is, how long its words are, and which trees may be read.
use Rattle.std.specs.Prelude.{◌≡◌, ◌≤◌, ◌<◌, ◌+◌, ◌*◌, ◌^◌, ℕ, ⊤}
use Rattle.std.specs.Prelude as std
use Rattle.base.specs.Extent.{Extent}
use Rattle.base.specs.Spelling.{FitsAsk}
use Rattle.scenario.specs.Tree.{Tree, Trees, One, Seq, Any, Times, Both, Nil, Cons}

abbrev mutual
  -- one ask, or a list of no children, is one deep; every other tree is one deeper than its deepest child
  pub depth : Tree → ℕ
  depth (One ask) = 1
  depth (Seq ts) = 1 + deepest ts
  depth (Any ts) = 1 + deepest ts
  depth (Times n t) = 1 + depth t
  depth (Both ts) = 1 + deepest ts

  pub deepest : Trees → ℕ
  deepest Nil = 0
  deepest (Cons t ts) = std.max (depth t) (deepest ts)

abbrev mutual
  -- the length of the longest word
  pub longest : Tree → ℕ
  longest (One ask) = 1
  longest (Seq ts) = total ts
  longest (Any ts) = greatest ts
  longest (Times n t) = n * longest t
  longest (Both ts) = total ts

  pub total : Trees → ℕ
  total Nil = 0
  total (Cons t ts) = longest t + total ts

  pub greatest : Trees → ℕ
  greatest Nil = 0
  greatest (Cons t ts) = std.max (longest t) (greatest ts)

abbrev mutual
  -- the tree is so, and each tree in it
  pub Throughout : (Tree → Type 0) → Tree → Type 0
  Throughout P (One ask) = P (One ask)
  Throughout P (Seq ts) = P (Seq ts) × InEach P ts
  Throughout P (Any ts) = P (Any ts) × InEach P ts
  Throughout P (Times n t) = P (Times n t) × Throughout P t
  Throughout P (Both ts) = P (Both ts) × InEach P ts

  pub InEach : (Tree → Type 0) → Trees → Type 0
  InEach P Nil = ⊤
  InEach P (Cons t ts) = Throughout P t × InEach P ts

-- an ask is put by a core of the shape, to a block of the shape
abbrev pub IsInShape : Extent → Tree → Type 0
IsInShape shape (One ask) = (ask.core.0 < shape.caches) × (ask.block.0 < shape.blocks)
IsInShape shape (Seq ts) = ⊤
IsInShape shape (Any ts) = ⊤
IsInShape shape (Times n t) = ⊤
IsInShape shape (Both ts) = ⊤

-- where one of the children is chosen, there is one
abbrev pub HasChoice : Tree → Type 0
HasChoice (One ask) = ⊤
HasChoice (Seq ts) = ⊤
HasChoice (Any Nil) = ⊥
HasChoice (Any (Cons t ts)) = ⊤
HasChoice (Times n t) = ⊤
HasChoice (Both ts) = ⊤

-- the numbers are in range of their types
abbrev pub FitsTypes : Tree → Type 0
FitsTypes (One ask) = (ask.core.0 < 2 ^ 32) × (ask.block.0 < 2 ^ 32) × FitsAsk ask.ask
FitsTypes (Seq ts) = ⊤
FitsTypes (Any ts) = ⊤
FitsTypes (Times n t) = n < 2 ^ 32
FitsTypes (Both ts) = ⊤

-- a tree of 48 levels at most, of words of 1,000,000 asks at most, with no empty choice, whose asks are in the shape
pub record IsWithin (shape : Extent) (tree : Tree) : Type 0 where
  pub shallow : depth tree ≤ 48
  pub short : longest tree ≤ 1000000
  pub choices : Throughout HasChoice tree
  pub asks : Throughout (IsInShape shape) tree
  pub numbers : Throughout FitsTypes tree
