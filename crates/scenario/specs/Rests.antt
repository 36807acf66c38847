-- What the code leaves of a tree. It differs from `left` in that a row of one child becomes the child.
use Rattle.std.specs.Prelude.{◌≡◌, ◌≤◌, ◌<◌, ◌+◌, ◌-◌, ℕ, if◌then◌else◌, nat_lt, List, length, drop, map}
use Rattle.std.specs.Prelude.{Option, Some, None, IfSome, slice_get, slice_set}
use Rattle.base.specs.declared.step.CoreAsk.{CoreAsk}
use Rattle.scenario.specs.declared.tree.Scenario.{Scenario}
use Rattle.scenario.specs.Tree.{Tree, Trees, One, Seq, Any, Times, Both, Nil, Cons, plain, plain_all, trees_of}
use Rattle.scenario.specs.Taking.{offers, offers_in_turn, offers_of_all}

-- a row of one child is the child
abbrev pub row_of : Trees → Tree
row_of Nil = Seq Nil
row_of (Cons t Nil) = t
row_of (Cons t (Cons u us)) = Seq (Cons t (Cons u us))

abbrev mutual
  -- what the code leaves once offer i is taken
  pub rest : Tree → ℕ → Tree
  rest (One ask) i = Seq Nil
  rest (Seq ts) i = rest_in_turn ts i
  rest (Any ts) i = rest_of_one ts i
  rest (Times n t) i = Seq (Cons (rest t i) (Cons (Times (n - 1) t) Nil))
  rest (Both ts) i = Both (rest_of_all ts i)

  pub rest_in_turn : Trees → ℕ → Tree
  rest_in_turn Nil i = Seq Nil
  rest_in_turn (Cons t ts) i = if nat_lt i (length (offers t)) then row_of (Cons (rest t i) ts) else rest_in_turn ts (i - length (offers t))

  pub rest_of_one : Trees → ℕ → Tree
  rest_of_one Nil i = Seq Nil
  rest_of_one (Cons t ts) i = if nat_lt i (length (offers t)) then rest t i else rest_of_one ts (i - length (offers t))

  pub rest_of_all : Trees → ℕ → Trees
  rest_of_all Nil i = Nil
  rest_of_all (Cons t ts) i = if nat_lt i (length (offers t)) then Cons (rest t i) ts else Cons t (rest_of_all ts (i - length (offers t)))

-- an offer is taken, or there is none there
abbrev pub Leaves : Tree → ℕ → Option CoreAsk → Tree → Type 0
Leaves old i None new = (length (offers old) ≤ i) × (new ≡ old)
Leaves old i (Some ask) new = (slice_get (offers old) i ≡ Some ask) × (new ≡ rest old i)

-- the same of children in turn, where an offer is taken: these children are what is left, as a row
abbrev pub LeavesInTurn : Trees → ℕ → CoreAsk → Trees → Type 0
LeavesInTurn old i ask new = (slice_get (offers_in_turn old) i ≡ Some ask) × (row_of new ≡ rest_in_turn old i)

-- where an offer is: among the first n, or so far behind them
abbrev pub past : ℕ → ℕ → Option ℕ
past n i = if nat_lt i n then None else Some (i - n)

-- offer i of the children in turn is offer k of child j
abbrev pub IsPlaceInTurn : {A : Type 0} → List (Scenario A) → ℕ → ℕ → ℕ → Type 0
IsPlaceInTurn ss i j k = IfSome (slice_get ss j) (λ s.
    (k < length (offers (plain s)))
    × (slice_get (offers_in_turn (plain_all ss)) i ≡ slice_get (offers (plain s)) k)
    × (rest_in_turn (plain_all ss) i ≡ row_of (Cons (rest (plain s) k) (plain_all (drop (j + 1) ss)))))

-- offer i of all the children is offer k of child j
abbrev pub IsPlaceAmong : {A : Type 0} → List (Scenario A) → ℕ → ℕ → ℕ → Type 0
IsPlaceAmong ss i j k = IfSome (slice_get ss j) (λ s.
    (k < length (offers (plain s)))
    × (slice_get (offers_of_all (plain_all ss)) i ≡ slice_get (offers (plain s)) k)
    × (rest_of_one (plain_all ss) i ≡ rest (plain s) k)
    × (rest_of_all (plain_all ss) i ≡ trees_of (slice_set (map plain ss) j (rest (plain s) k))))

abbrev mutual
  -- the tree without rows of one child: each becomes its child
  pub flat : Tree → Tree
  flat (One ask) = One ask
  flat (Seq ts) = row_of (flats ts)
  flat (Any ts) = Any (flats ts)
  flat (Times n t) = Times n (flat t)
  flat (Both ts) = Both (flats ts)

  pub flats : Trees → Trees
  flats Nil = Nil
  flats (Cons t ts) = Cons (flat t) (flats ts)
