-- How a seat of a crew gets on.
use Rattle.std.specs.Prelude.{◌≡◌}
use Rattle.floor.specs.declared.crews.Launch.{Launch}
use Rattle.floor.specs.declared.crews.Launch.TheVariants.{Started, Ended}
use Rattle.floor.specs.Turning.{SeatView}
use Rattle.floor.specs.Crews.{GoesOn}

-- a thread has promised to go on from a seat, or the seat has gone on already
abbrev pub IsWayOf : {a : _} → SeatView → Launch a → Type 0
IsWayOf before (Started handle) = handle.promise.0.value ≡ before
IsWayOf before (Ended seat fault) = GoesOn before seat
