-- What a contract sees of a desk and of a seat, and a seat once something was done at it.
use Rattle.std.specs.Prelude.{◌≡◌, ℕ, ◌<◌, List, [], ◌∷◌, ◌++◌, length, replicate, slice_index_or, slice_set, Bool, true, false, Option, Some, None}
use Rattle.std.specs.List.Sorted.{IsStrictlyIncreasing}
use Rattle.atomic_table.specs.Seated.{TableId}
use Rattle.trials.specs.declared.verdict.TrialResult.{TrialResult}
use Rattle.desk.specs.Counting.{times}

-- which desk it is: its word, and the names of its cells, one for each number
pub record DeskId : Type 0 where
  pub table : TableId
  pub cells : List ℕ

-- how many numbers a desk has
abbrev pub numbers_of : DeskId → ℕ
numbers_of desk = length desk.cells

-- a desk: which one it is, and how many seats it has
pub record DeskView : Type 0 where
  pub id : DeskId
  pub seats : ℕ

-- a seat: its desk, the numbers that it claimed, whether it was told that there are no more; and of each number whether it has posted it, and what
-- result it has posted or found there
pub record DeskSeatView : Type 0 where
  pub desk : DeskId
  pub claimed : List ℕ
  pub told : Bool
  pub posted : List Bool
  pub known : List (Option TrialResult)

-- the seat has claimed the number
abbrev pub HasClaimed : DeskSeatView → ℕ → Type 0
HasClaimed seat number = 0 < times number seat.claimed

-- the seat has posted the number
abbrev pub HasPosted : DeskSeatView → ℕ → Type 0
HasPosted seat number = slice_index_or seat.posted number false ≡ true

-- the seat has posted or found this result of the number. That it is of this number is said beside it: a cell's type says whose
-- trial's result lies in it, and not of which number
abbrev pub Knows : DeskSeatView → ℕ → TrialResult → Type 0
Knows seat number result = (slice_index_or seat.known number None ≡ Some result) × (result.number ≡ number)

-- what holds of each seat, whatever was called: its claims rise and are numbers of its desk, and it has posted nothing else
pub record ClaimsInOrder (seat : DeskSeatView) : Type 0 where
  pub rises : IsStrictlyIncreasing seat.claimed
  pub below : (number : ℕ) → HasClaimed seat number → number < numbers_of seat.desk
  pub own : (number : ℕ) → HasPosted seat number → HasClaimed seat number

-- a seat that has done nothing
abbrev pub new_seat : DeskId → DeskSeatView
new_seat desk =
    record { desk = desk; claimed = []; told = false; posted = replicate (numbers_of desk) false; known = replicate (numbers_of desk) None }

-- the seat once it has claimed the number
abbrev pub with_claim : DeskSeatView → ℕ → DeskSeatView
with_claim seat number =
    record { desk = seat.desk; claimed = seat.claimed ++ number ∷ []; told = seat.told; posted = seat.posted; known = seat.known }

-- the seat once it was told that there are no more
abbrev pub told_no_more : DeskSeatView → DeskSeatView
told_no_more seat = record { desk = seat.desk; claimed = seat.claimed; told = true; posted = seat.posted; known = seat.known }

-- the seat once something is known or isn't known of the number
abbrev pub with_known : DeskSeatView → ℕ → Option TrialResult → DeskSeatView
with_known seat number known =
    record { desk = seat.desk; claimed = seat.claimed; told = seat.told; posted = seat.posted; known = slice_set seat.known number known }

-- the seat once it has posted this result of the number
abbrev pub with_post : DeskSeatView → ℕ → TrialResult → DeskSeatView
with_post seat number result =
    record {
      desk = seat.desk;
      claimed = seat.claimed;
      told = seat.told;
      posted = slice_set seat.posted number true;
      known = slice_set seat.known number (Some result);
    }
