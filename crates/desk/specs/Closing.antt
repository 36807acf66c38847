-- What is known of all seats, what stands at the places, and why a desk isn't closed.
use Rattle.std.specs.Prelude.{◌≡◌, ℕ, ◌+◌, ◌<◌, ◌≤◌, ◌||◌, List, [], ◌∷◌, All, length, map, slice_get, Bool, true, false, Option, Some, None}
use Rattle.trials.specs.declared.verdict.TrialResult.{TrialResult}
use Rattle.trials.specs.Terms.{Plan}
use Rattle.trials.specs.Trial.{AreResults}
use Rattle.desk.specs.declared.faults.CloseFault.{CloseFault}
use Rattle.desk.specs.declared.faults.CloseFault.TheVariants.{SeatMissing, NoMemory}
use Rattle.desk.specs.Plans.{IsResultOf}
use Rattle.desk.specs.Counting.{times, once_below}
use Rattle.desk.specs.Seats.{DeskView, DeskSeatView, HasClaimed, HasPosted, Knows, numbers_of}

-- how often a row of seats has claimed the number
abbrev pub claims_of : ℕ → List DeskSeatView → ℕ
claims_of number [] = 0
claims_of number (seat ∷ row) = times number seat.claimed + claims_of number row

-- whether one of them was told that there are no more
abbrev pub any_told : List DeskSeatView → Bool
any_told [] = false
any_told (seat ∷ row) = seat.told || any_told row

-- what they claimed are the numbers below c, each once; and these are all n of them where one was told that there are no more
pub record AreClaimed (n : ℕ) (row : List DeskSeatView) : Type 0 where
  pub c : ℕ
  pub within : c ≤ n
  pub each : (number : ℕ) → claims_of number row ≡ once_below number c
  pub all : any_told row ≡ true → c ≡ n

-- one of them has posted the number
abbrev pub IsPosted : List DeskSeatView → ℕ → Type 0
IsPosted row number = (at : ℕ) × (seat : DeskSeatView) × (slice_get row at ≡ Some seat) × HasPosted seat number

-- what stands at the place of a number: the result that one of them has posted, which is its trial's, or nothing where none has posted it
abbrev pub IsPlace : Plan → List DeskSeatView → ℕ → Option TrialResult → Type 0
IsPlace plan row number None = ¬ IsPosted row number
IsPlace plan row number (Some result) =
    IsResultOf plan number result × (at : ℕ) × (seat : DeskSeatView) × (slice_get row at ≡ Some seat) × HasPosted seat number × Knows seat number result

-- there are n places, and this stands at each
pub record ArePlaces (plan : Plan) (n : ℕ) (row : List DeskSeatView) (places : List (Option TrialResult)) : Type 0 where
  pub count : length places ≡ n
  pub each : (number : ℕ) (place : Option TrialResult) → slice_get places number ≡ Some place → IsPlace plan row number place

-- a result stands at every place
abbrev pub AreFilled : List (Option TrialResult) → Type 0
AreFilled places = (results : List TrialResult) × (places ≡ map (λ found. Some found) results)

-- the seat has posted all that it has claimed
abbrev pub HasPostedAll : DeskSeatView → Type 0
HasPostedAll seat = (number : ℕ) → HasClaimed seat number → HasPosted seat number

-- a desk is closed with all its seats. Every place is filled where one of them was told that there are no more and each has posted what it
-- claimed; and where every place is filled, the list is that of the plan's batch
pub record Closes (plan : Plan) (desk : DeskView) (row : List DeskSeatView) (places : List (Option TrialResult)) : Type 0 where
  pub there : desk.seats ≤ length row
  pub claims : AreClaimed (numbers_of desk.id) row
  pub stand : ArePlaces plan (numbers_of desk.id) row places
  pub filled : any_told row ≡ true → All HasPostedAll row → AreFilled places
  pub batch : (results : List TrialResult) → places ≡ map (λ found. Some found) results → AreResults plan.terms plan.tree (numbers_of desk.id) results

-- why a desk isn't closed, at which so many seats are handed in
abbrev pub IsCloseFault : DeskView → ℕ → CloseFault → Type 0
IsCloseFault desk there SeatMissing = there < desk.seats
IsCloseFault desk there NoMemory = desk.seats ≤ there
