-- Which floors are opened.
use Rattle.std.specs.Prelude.{◌≡◌, ◌<◌, ◌≤◌, ℕ}
use Rattle.floor.specs.declared.floors.FloorFault.{FloorFault}
use Rattle.floor.specs.declared.floors.FloorFault.TheVariants.{NoSeats, TooManySeats, OverLimit, NoMemory}

-- a floor may have so many seats
abbrev pub IsSeatCount : ℕ → Type 0
IsSeatCount seats = (0 < seats) × (seats ≤ 64)

-- a floor may have so many seats, and take so many entries
abbrev pub IsFloorSize : ℕ → ℕ → Type 0
IsFloorSize seats capacity = IsSeatCount seats × (capacity ≤ 1000000)

-- why a floor of so many seats and of this capacity isn't opened: for the first of these reasons, and for memory where it may be opened
abbrev pub IsUnopened : ℕ → ℕ → FloorFault → Type 0
IsUnopened seats capacity NoSeats = seats ≡ 0
IsUnopened seats capacity TooManySeats = 64 < seats
IsUnopened seats capacity OverLimit = IsSeatCount seats × (1000000 < capacity)
IsUnopened seats capacity NoMemory = IsFloorSize seats capacity
