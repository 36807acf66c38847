-- What a desk and its seats are at first, and why a desk isn't made.
use Rattle.std.specs.Prelude.{◌≡◌, ℕ, ◌<◌, ◌≤◌, List, All, replicate}
use Rattle.desk.specs.declared.faults.DeskFault.{DeskFault}
use Rattle.desk.specs.declared.faults.DeskFault.TheVariants.{TooMany, NoSeats, TooManySeats, NoMemory}
use Rattle.desk.specs.Seats.{DeskView, DeskSeatView, new_seat, numbers_of}

-- so many numbers and seats are within the limits
pub record AreWithinLimits (n seats : ℕ) : Type 0 where
  pub few : n ≤ 1000000
  pub some : 0 < seats
  pub seats_few : seats ≤ 64

-- a desk of n numbers, and its seats, which have done nothing
pub record OpensDesk (n seats : ℕ) (desk : DeskView) (row : List DeskSeatView) : Type 0 where
  pub within : AreWithinLimits n seats
  pub numbers : numbers_of desk.id ≡ n
  pub seats_are : desk.seats ≡ seats
  pub row_is : row ≡ replicate seats (new_seat desk.id)
  pub its : All (λ seat. seat.desk ≡ desk.id) row

-- why a desk isn't made: memory is all that may lack within the limits
abbrev pub IsDeskFault : ℕ → ℕ → DeskFault → Type 0
IsDeskFault n seats TooMany = 1000000 < n
IsDeskFault n seats NoSeats = (n ≤ 1000000) × (seats ≡ 0)
IsDeskFault n seats TooManySeats = (n ≤ 1000000) × (64 < seats)
IsDeskFault n seats NoMemory = AreWithinLimits n seats
