-- For private clauses: the parts that a cursor has, and how far it comes by an offer.
use Rattle.std.specs.Prelude.{◌≡◌, ◌≤◌, ◌<◌, ◌+◌, ℕ, zero, suc, List, [], ◌∷◌, length, take, map}
use Rattle.std.specs.Prelude.{Result, MatchResult, Some, IfSome, slice_get, slice_set}
use Rattle.std.specs.Prelude as std
use Rattle.scenario.specs.Tree.{Tree, Trees, plain, plain_all, trees_of}
use Rattle.scenario.specs.Tree as tree
use Rattle.scenario.specs.Taking.{offers}
use Rattle.scenario.specs.Rests.{flat, rest}
use Rattle.cursors.specs.Cursors.{Progress, Parts, Nothing, Whole, InSeq, InTimes, InBoth, Nil, Cons}
use Rattle.cursors.specs.Cursors.{progress, progress_row, tree_left}
use Rattle.cursors.specs.Stock.{Stock, Empty, With, Within, room, room_in_turn, wants}
use Rattle.cursors.specs.declared.part.Part.{Part, Fresh, Begun'}
use Rattle.cursors.specs.declared.part.PartPlace.{PartPlace}
use Rattle.cursors.specs.declared.part.PartPlace.TheVariants as place

-- all parts of a part, also those that are kept for later
abbrev pub parts_of : {A B : Type 0} → Part A B → List Progress
parts_of (Fresh at) = []
parts_of (Begun' at shape row) = progress_row row

-- where in its tree a part is
abbrev pub place_of : {A B : Type 0} → Part A B → PartPlace A
place_of (Fresh at) = at
place_of (Begun' at shape row) = at

-- what is left of a part's tree
abbrev pub part_left : {A B : Type 0} → Part A B → Tree
part_left p = tree_left (progress p)

-- how many parts are in use at a place
abbrev pub count_at : {A : Type 0} → PartPlace A → ℕ
count_at place.Nothing = 0
count_at (place.Whole t) = 0
count_at (place.InSeq ts) = 1
count_at (place.InTimes n t) = 1
count_at (place.InBoth n) = n

-- what is left of these
abbrev pub all_left : List Progress → Trees
all_left ps = trees_of (map tree_left ps)

-- what is left behind the parts in use
abbrev pub behind : {A : Type 0} → PartPlace A → Tree
behind place.Nothing = tree.Seq tree.Nil
behind (place.Whole t) = plain t.now
behind (place.InSeq ts) = tree.Seq (plain_all ts.now)
behind (place.InTimes n t) = tree.Times n (plain t.now)
behind (place.InBoth n) = tree.Seq tree.Nil

abbrev mutual
  -- how far its parts go down
  pub height : Progress → ℕ
  height Nothing = 1
  height (Whole t) = 1
  height (InSeq p ts) = 1 + height p
  height (InTimes p n t) = 1 + height p
  height (InBoth ps) = 1 + height_of_all ps

  pub height_of_all : Parts → ℕ
  height_of_all Nil = 0
  height_of_all (Cons p ps) = std.max (height p) (height_of_all ps)

-- the same of the part that goes furthest
abbrev pub highest : List Progress → ℕ
highest [] = 0
highest (p ∷ ps) = std.max (height p) (highest ps)

-- offer i of a tree is taken: what is left is the same but for rows of one child, and these parts at most are wanted
abbrev pub MovesTo : Tree → ℕ → Stock → Progress → Type 0
MovesTo t i most new = (flat (tree_left new) ≡ flat (rest t i)) × Within (wants new) most

-- offer i is taken, where this is how the call ended; else the part is as far as it was
abbrev pub MovesBy : {A B T E : Type 0} → Tree → ℕ → Stock → Result T E → Part A B → Part A B → Type 0
MovesBy t i most result old new = MatchResult result (λ _. MovesTo t i most (progress new)) (λ _. progress new ≡ progress old)

-- part k is taken into use for a tree, of which offer i is taken. The other parts stay as they were
abbrev pub Begins : List Progress → ℕ → Tree → ℕ → List Progress → Type 0
Begins old k t i new = (p : Progress) × (new ≡ slice_set old k p) × MovesTo t i (room t) p

-- the same, where there are so many parts at least by then
abbrev pub BeginsAmong : ℕ → ℕ → Tree → ℕ → List Progress → Type 0
BeginsAmong n k t i new = (old : List Progress) × (n ≤ length old) × Begins old k t i new

-- there is a part of this number, and it has an offer k
abbrev pub OffersAt : List Progress → ℕ → ℕ → Type 0
OffersAt ps j k = (p : Progress) × (slice_get ps j ≡ Some p) × (k < length (offers (tree_left p)))

-- offer k of part j is taken. The other parts stay as they were
abbrev pub MovesPart : List Progress → ℕ → ℕ → List Progress → Type 0
MovesPart old j k new = (p q : Progress) × (slice_get old j ≡ Some p) × (new ≡ slice_set old j q) × MovesTo (tree_left p) k (wants p) q

-- the parts that are wanted for what is behind the parts in use
abbrev pub wants_behind : {A : Type 0} → PartPlace A → Stock
wants_behind place.Nothing = Empty
wants_behind (place.Whole t) = room (plain t.now)
wants_behind (place.InSeq ts) = room_in_turn (plain_all ts.now)
wants_behind (place.InTimes n t) = With (room (plain t.now)) Empty
wants_behind (place.InBoth n) = Empty

-- the new parts are within all that the old ones and these more are within
abbrev pub Adds : Stock → Stock → Stock → Type 0
Adds old more new = (most : Stock) → Within old most → Within more most → Within new most

-- the same of these more and those others
abbrev pub AddsBoth : Stock → Stock → Stock → Stock → Type 0
AddsBoth old more others new = (most : Stock) → Within old most → Within more most → Within others most → Within new most

-- the row of parts that hold these
abbrev pub holding : List Stock → Stock
holding [] = Empty
holding (own ∷ others) = With own (holding others)

-- so many parts that hold none
abbrev pub bare : ℕ → Stock
bare zero = Empty
bare (suc n) = With Empty (bare n)

-- the part of this number holds these
abbrev pub at_place : ℕ → Stock → Stock
at_place zero own = With own Empty
at_place (suc n) own = With Empty (at_place n own)

-- what the part of this number wants
abbrev pub wants_at : List Progress → ℕ → Stock
wants_at [] j = Empty
wants_at (p ∷ ps) zero = With (wants p) Empty
wants_at (p ∷ ps) (suc j) = With Empty (wants_at ps j)

-- some parts more, of which nothing is left
abbrev pub Grows : List Progress → List Progress → Type 0
Grows [] [] = Unit {0}
Grows [] (q ∷ qs) = (q ≡ Nothing) × Grows [] qs
Grows (p ∷ ps) [] = ⊥
Grows (p ∷ ps) (q ∷ qs) = (q ≡ p) × Grows ps qs

-- the first parts are these trees, all of each, but for the part of this number, which stays as it was
abbrev pub IsWholeBut : ℕ → List Tree → List Progress → List Progress → Type 0
IsWholeBut k ts old new = IfSome (slice_get old k) (λ p. take (length ts) new ≡ slice_set (map Whole ts) k p)
