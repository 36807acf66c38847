-- How a seat's wish is met.
use Rattle.std.specs.Prelude.{ℕ, Option, Some, None}
use Rattle.record_lines.specs.declared.entry.Entry.{Entry}
use Rattle.floor.specs.FloorId.{FloorId}
use Rattle.floor.specs.Turning.{SeatView}
use Rattle.floor.specs.SeatCalling.{Receives, ReceivesAny}
use Rattle.floor.specs.declared.crews.Wish.{Wish}
use Rattle.floor.specs.declared.crews.Wish.TheVariants.{Step, Any}

-- what a seat wished has come of its call: the one receipt more that it has now, or none where nothing was ready
abbrev pub Meets : FloorId → Wish → SeatView → SeatView → Option (ℕ × Entry) → Type 0
Meets floor (Step step) old new (Some receipt) = Receives floor old new step receipt
Meets floor (Step step) old new None = ⊥
Meets floor (Any word) old new made = ReceivesAny floor old new word made
