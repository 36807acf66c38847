-- The parts that a cursor holds, in use or not, those that a tree has room for, and how many these are.
use Rattle.std.specs.Prelude.{◌+◌, ℕ, ⊤}
use Rattle.scenario.specs.Tree.{Tree, Trees}
use Rattle.scenario.specs.Tree as tree
use Rattle.cursors.specs.Cursors.{Progress, Parts, Nothing, Whole, InSeq, InTimes, InBoth, Nil, Cons, standing}
use Rattle.cursors.specs.declared.cursor.Cursor.{Cursor}
use Rattle.cursors.specs.declared.part.Part.{Part, Fresh, Begun', Row_of-Part, end_of-Part, more_of-Part}

-- a row of parts: none, or a first one, as the row that it holds itself, and the others
pub data Stock : Type 0 where
  Empty : Stock
  With : Stock → Stock → Stock

-- how many parts these are, with all that they hold
abbrev pub parts_in : Stock → ℕ
parts_in Empty = 0
parts_in (With own others) = 1 + (parts_in own + parts_in others)

abbrev mutual
  -- the parts that a part holds, in use or kept for later
  pub stock : {A B : Type 0} → Part A B → Stock
  stock (Fresh at) = Empty
  stock (Begun' at shape row) = stock_row row

  pub stock_row : {A B : Type 0} {n : _} → Row_of-Part A B n → Stock
  stock_row end_of-Part = Empty
  stock_row (more_of-Part p row) = With (stock p) (stock_row row)

-- how many parts a cursor holds, in use or kept for later: its root, and all that this holds
abbrev pub parts_held : {A B : Type 0} → Cursor A B → ℕ
parts_held c = 1 + parts_in (stock c.root)

abbrev mutual
  -- how many parts of a cursor are in use, its root among them. A tree that is still whole is one part
  pub parts_used : Progress → ℕ
  parts_used Nothing = 1
  parts_used (Whole t) = 1
  parts_used (InSeq p ts) = 1 + parts_used p
  parts_used (InTimes p n t) = 1 + parts_used p
  parts_used (InBoth ps) = 1 + total_parts_used ps

  pub total_parts_used : Parts → ℕ
  total_parts_used Nil = 0
  total_parts_used (Cons p ps) = parts_used p + total_parts_used ps

abbrev mutual
  -- how many nodes a tree has
  pub nodes : Tree → ℕ
  nodes (tree.One ask) = 1
  nodes (tree.Seq ts) = 1 + total_nodes ts
  nodes (tree.Any ts) = 1 + total_nodes ts
  nodes (tree.Times n t) = 1 + nodes t
  nodes (tree.Both ts) = 1 + total_nodes ts

  pub total_nodes : Trees → ℕ
  total_nodes tree.Nil = 0
  total_nodes (tree.Cons t ts) = nodes t + total_nodes ts

-- each part of the first row has its place in the second one
abbrev pub Within : Stock → Stock → Type 0
Within Empty most = ⊤
Within (With own others) Empty = ⊥
Within (With own others) (With own' others') = Within own own' × Within others others'

-- the least row with a place for each part of both
abbrev pub union : Stock → Stock → Stock
union Empty more = more
union (With own others) Empty = With own others
union (With own others) (With own' others') = With (union own own') (union others others')

abbrev mutual
  -- the parts that a cursor may want for a tree, beside its root
  pub room : Tree → Stock
  room (tree.One ask) = Empty
  room (tree.Seq ts) = room_in_turn ts
  room (tree.Any ts) = room_of_one ts
  room (tree.Times n t) = With (room t) Empty
  room (tree.Both ts) = room_of_all ts

  -- one part, for one child behind the other
  pub room_in_turn : Trees → Stock
  room_in_turn tree.Nil = Empty
  room_in_turn (tree.Cons t ts) = union (With (room t) Empty) (room_in_turn ts)

  -- what any one of the children wants
  pub room_of_one : Trees → Stock
  room_of_one tree.Nil = Empty
  room_of_one (tree.Cons t ts) = union (room t) (room_of_one ts)

  -- a part for each child
  pub room_of_all : Trees → Stock
  room_of_all tree.Nil = Empty
  room_of_all (tree.Cons t ts) = With (room t) (room_of_all ts)

abbrev mutual
  -- the parts that a cursor may want from here on, beside its root: those in use, and those for what is left
  pub wants : Progress → Stock
  wants Nothing = Empty
  wants (Whole t) = room t
  wants (InSeq p ts) = union (With (wants p) Empty) (room_in_turn ts)
  wants (InTimes p n t) = With (union (wants p) (room t)) Empty
  wants (InBoth ps) = wants_of_all ps

  pub wants_of_all : Parts → Stock
  wants_of_all Nil = Empty
  wants_of_all (Cons p ps) = With (wants p) (wants_of_all ps)

-- the most parts that a cursor can come to have in use from here on, its root among them
abbrev pub most_used : Progress → ℕ
most_used p = 1 + parts_in (wants p)

-- a tree has room for all parts that a cursor holds, and for all that it may want
pub record FitsIn {A B : Type 0} (c : Cursor A B) (t : Tree) : Type 0 where
  pub held : Within (stock c.root) (room t)
  pub wanted : Within (wants (standing c)) (room t)
