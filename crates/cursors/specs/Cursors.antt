-- How far a cursor is in its tree, without where its parts lie.
use Rattle.std.specs.Prelude.{ℕ, zero, suc, List, [], ◌∷◌}
use Rattle.scenario.specs.Tree.{Tree, Trees, plain, plain_all}
use Rattle.scenario.specs.Tree as tree
use Rattle.cursors.specs.declared.cursor.Cursor.{Cursor}
use Rattle.cursors.specs.declared.part.Part.{Part, Fresh, Begun', Row_of-Part, end_of-Part, more_of-Part}
use Rattle.cursors.specs.declared.part.PartPlace.{PartPlace}
use Rattle.cursors.specs.declared.part.PartPlace.TheVariants as place

mutual
  -- nothing is left; a whole tree; what is left of a child, before the others of its row;
  -- what is left of a turn, before so many turns of a child; what is left of each child, all at once
  pub data Progress : Type 0 where
    Nothing : Progress
    Whole : Tree → Progress
    InSeq : Progress → Trees → Progress
    InTimes : Progress → ℕ → Tree → Progress
    InBoth : Parts → Progress

  pub data Parts : Type 0 where
    Nil : Parts
    Cons : Progress → Parts → Parts

-- the first part; nothing is left where it isn't there
abbrev pub first_part : List Progress → Progress
first_part [] = Nothing
first_part (p ∷ ps) = p

-- the first n parts; nothing is left of those that aren't there
abbrev pub first_parts : ℕ → List Progress → Parts
first_parts zero ps = Nil
first_parts (suc n) [] = Cons Nothing (first_parts n [])
first_parts (suc n) (p ∷ ps) = Cons p (first_parts n ps)

-- how far a cursor of these parts is, at this place. Parts that the place doesn't use are kept for later, and mean nothing
abbrev pub progress_at : {A : Type 0} → PartPlace A → List Progress → Progress
progress_at place.Nothing ps = Nothing
progress_at (place.Whole t) ps = Whole (plain t.now)
progress_at (place.InSeq ts) ps = InSeq (first_part ps) (plain_all ts.now)
progress_at (place.InTimes n t) ps = InTimes (first_part ps) n (plain t.now)
progress_at (place.InBoth n) ps = InBoth (first_parts n ps)

abbrev mutual
  -- how far a part is, wherever it lies
  pub progress : {A B : Type 0} → Part A B → Progress
  progress (Fresh at) = progress_at at []
  progress (Begun' at shape row) = progress_at at (progress_row row)

  pub progress_row : {A B : Type 0} {n : _} → Row_of-Part A B n → List Progress
  progress_row end_of-Part = []
  progress_row (more_of-Part p row) = progress p ∷ progress_row row

abbrev mutual
  -- the tree that is left
  pub tree_left : Progress → Tree
  tree_left Nothing = tree.Seq tree.Nil
  tree_left (Whole t) = t
  tree_left (InSeq p ts) = tree.Seq (tree.Cons (tree_left p) ts)
  tree_left (InTimes p n t) = tree.Seq (tree.Cons (tree_left p) (tree.Cons (tree.Times n t) tree.Nil))
  tree_left (InBoth ps) = tree.Both (trees_left ps)

  pub trees_left : Parts → Trees
  trees_left Nil = tree.Nil
  trees_left (Cons p ps) = tree.Cons (tree_left p) (trees_left ps)

-- how far a cursor is
abbrev pub standing : {A B : Type 0} → Cursor A B → Progress
standing c = progress c.root

-- what is left of a cursor's tree
abbrev pub remaining : {A B : Type 0} → Cursor A B → Tree
remaining c = tree_left (standing c)
