-- What a tree offers, and what is left of it once an offer is taken.
use Rattle.std.specs.Prelude.{◌-◌, ◌==◌, ℕ, Bool, true, false, ◌||◌, ◌&&◌, if◌then◌else◌, nat_lt, List, [], ◌∷◌, ◌++◌, length}
use Rattle.base.specs.declared.step.CoreAsk.{CoreAsk}
use Rattle.scenario.specs.Tree.{Tree, Trees, One, Seq, Any, Times, Both, Nil, Cons}

abbrev mutual
  -- the tree may end here: nothing more need be asked
  pub ends : Tree → Bool
  ends (One ask) = false
  ends (Seq ts) = all_end ts
  ends (Any ts) = some_ends ts
  ends (Times n t) = (n == 0) || ends t
  ends (Both ts) = all_end ts

  pub all_end : Trees → Bool
  all_end Nil = true
  all_end (Cons t ts) = ends t && all_end ts

  pub some_ends : Trees → Bool
  some_ends Nil = false
  some_ends (Cons t ts) = ends t || some_ends ts

abbrev mutual
  -- what may be asked next, in order; each counts, also where two are the same ask
  pub offers : Tree → List CoreAsk
  offers (One ask) = ask ∷ []
  offers (Seq ts) = offers_in_turn ts
  offers (Any ts) = offers_of_all ts
  offers (Times n t) = if n == 0 then [] else offers t
  offers (Both ts) = offers_of_all ts

  -- the first child's, and those behind it where it may end
  pub offers_in_turn : Trees → List CoreAsk
  offers_in_turn Nil = []
  offers_in_turn (Cons t ts) = offers t ++ (if ends t then offers_in_turn ts else [])

  pub offers_of_all : Trees → List CoreAsk
  offers_of_all Nil = []
  offers_of_all (Cons t ts) = offers t ++ offers_of_all ts

abbrev mutual
  -- what is left after offer i is taken
  pub left : Tree → ℕ → Tree
  left (One ask) i = Seq Nil
  left (Seq ts) i = Seq (left_in_turn ts i)
  left (Any ts) i = left_of_one ts i
  left (Times n t) i = Seq (Cons (left t i) (Cons (Times (n - 1) t) Nil))
  left (Both ts) i = Both (left_of_all ts i)

  -- the children before the one that offered it go
  pub left_in_turn : Trees → ℕ → Trees
  left_in_turn Nil i = Nil
  left_in_turn (Cons t ts) i = if nat_lt i (length (offers t)) then Cons (left t i) ts else left_in_turn ts (i - length (offers t))

  -- the other children go
  pub left_of_one : Trees → ℕ → Tree
  left_of_one Nil i = Seq Nil
  left_of_one (Cons t ts) i = if nat_lt i (length (offers t)) then left t i else left_of_one ts (i - length (offers t))

  -- the other children stay
  pub left_of_all : Trees → ℕ → Trees
  left_of_all Nil i = Nil
  left_of_all (Cons t ts) i = if nat_lt i (length (offers t)) then Cons (left t i) ts else Cons t (left_of_all ts (i - length (offers t)))
