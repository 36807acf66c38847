-- When lanes fit in a scenario, and how many parts they hold.
use Rattle.std.specs.Prelude.{◌≡◌, ◌+◌, ◌^◌, ℕ, ⊤, if◌then◌else◌, nat_le, List, [], ◌∷◌}
use Rattle.std.specs.List.{sum_by}
use Rattle.cursors.specs.Stock.{Within, parts_in, room}
use Rattle.scenario.specs.Tree.{Tree, Trees, One, Seq, Any, Times, Both, Nil, Cons, trees_of}
use Rattle.lanes.specs.Lanes.{Laned, Stocked}

-- how many trees these are
abbrev pub how_many : Trees → ℕ
how_many Nil = 0
how_many (Cons t ts) = 1 + how_many ts

-- the trees that a scenario has lanes of: those that go on at once at its top, if they are at most 2^31, or itself alone
abbrev pub lane_trees : Tree → Trees
lane_trees (One ask) = Cons (One ask) Nil
lane_trees (Seq ts) = Cons (Seq ts) Nil
lane_trees (Any ts) = Cons (Any ts) Nil
lane_trees (Times n t) = Cons (Times n t) Nil
lane_trees (Both ts) = if nat_le (how_many ts) (2 ^ 31) then ts else Cons (Both ts) Nil

-- a tree has room for all parts that a cursor holds, and for all that it may want
abbrev pub Fits : Stocked → Tree → Type 0
Fits s t = Within s.held (room t) × Within s.wanted (room t)

-- there are as many cursors as trees, and each fits in the tree of its number
abbrev pub EachFits : List Stocked → Trees → Type 0
EachFits [] Nil = ⊤
EachFits [] (Cons t ts) = ⊥
EachFits (s ∷ ss) Nil = ⊥
EachFits (s ∷ ss) (Cons t ts) = Fits s t × EachFits ss ts

-- lanes fit in a scenario: they go on from the trees that it has lanes of where they are restarted, and the cursor of each fits in its tree
pub record LanesFit (l : Laned) (t : Tree) : Type 0 where
  pub source : trees_of l.source.trees ≡ lane_trees t
  pub each : EachFits l.stocks (lane_trees t)

-- the source is the same, and lanes fit in each scenario that they fitted in
pub record KeepSource (old new : Laned) : Type 0 where
  pub source : new.source ≡ old.source
  pub fits : (t : Tree) → LanesFit old t → LanesFit new t

-- how many parts the cursors of all lanes hold, in use or kept for later: a root each, and all that this holds
abbrev pub parts_of_lanes : Laned → ℕ
parts_of_lanes l = sum_by (λ s. 1 + parts_in s.held) l.stocks
