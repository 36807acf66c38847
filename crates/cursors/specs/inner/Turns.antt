-- Turns of a choice of asks: what a cursor may know of them. Nothing here speaks of cursors, so that they may keep it.
use Rattle.std.specs.Prelude.{Bool, true, false, ◌&&◌}
use Rattle.scenario.specs.Tree.{Tree, Trees, plain}
use Rattle.scenario.specs.Tree as tree
use Rattle.cursors.specs.declared.part.Part.{Part, Fresh, Begun'}
use Rattle.cursors.specs.declared.part.PartPlace.{PartPlace}
use Rattle.cursors.specs.declared.part.PartPlace.TheVariants as place

-- a tree is one ask
abbrev pub is_ask : Tree → Bool
is_ask (tree.One ask) = true
is_ask (tree.Seq ts) = false
is_ask (tree.Any ts) = false
is_ask (tree.Times n t) = false
is_ask (tree.Both ts) = false

-- all of these are
abbrev pub all_asks : Trees → Bool
all_asks tree.Nil = true
all_asks (tree.Cons t ts) = is_ask t && all_asks ts

-- a tree is one ask, or a choice of asks
abbrev pub is_choice : Tree → Bool
is_choice (tree.One ask) = true
is_choice (tree.Seq ts) = false
is_choice (tree.Any ts) = all_asks ts
is_choice (tree.Times n t) = false
is_choice (tree.Both ts) = false

-- a place is in turns of such a tree
abbrev pub chooses_at : {A : Type 0} → PartPlace A → Bool
chooses_at place.Nothing = false
chooses_at (place.Whole t) = false
chooses_at (place.InSeq ts) = false
chooses_at (place.InTimes n t) = is_choice (plain t.now)
chooses_at (place.InBoth n) = false

-- and a part is there
abbrev pub chooses : {A B : Type 0} → Part A B → Bool
chooses (Fresh at) = chooses_at at
chooses (Begun' at shape row) = chooses_at at
