-- What working does to a seat.
use Rattle.std.specs.Prelude.{◌≡◌, ℕ, ◌<◌, ◌⊎◌, List, ◌++◌, length, true}
use Rattle.trials.specs.declared.verdict.TrialResult.{TrialResult}
use Rattle.desk.specs.Counting.{times}
use Rattle.desk.specs.Seats.{DeskSeatView, HasPosted, Knows, with_claim}

-- the seat has claimed these numbers more, and posted exactly these
pub record Works (old new : DeskSeatView) (numbers : List ℕ) : Type 0 where
  pub desk : new.desk ≡ old.desk
  pub claimed : new.claimed ≡ old.claimed ++ numbers
  pub posted : (number : ℕ) → 0 < times number numbers → HasPosted new number
  pub stands : (number : ℕ) → HasPosted old number → HasPosted new number
  pub others : (number : ℕ) → HasPosted new number → HasPosted old number ⊎ (0 < times number numbers)
  pub known : (number : ℕ) (result : TrialResult) → Knows old number result → Knows new number result

-- the seat has worked until it was told that there are no more, and has posted so many numbers
pub record WorksOff (old new : DeskSeatView) (count : ℕ) : Type 0 where
  pub numbers : List ℕ
  pub count_is : length numbers ≡ count
  pub works : Works old new numbers
  pub told : new.told ≡ true

-- the seat has worked, and has claimed one number more, which isn't posted
abbrev pub Stops : DeskSeatView → DeskSeatView → Type 0
Stops old new = (numbers : List ℕ) × (seat : DeskSeatView) × (last : ℕ) × Works old seat numbers × (new ≡ with_claim seat last) × ¬ HasPosted new last
