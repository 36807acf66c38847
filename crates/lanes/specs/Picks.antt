-- Choices by the lane of an offer, and its place there.
use Rattle.std.specs.Prelude.{◌≡◌, ◌+◌, ◌<◌, Bool, List, false, true, length, take}
use Rattle.std.specs.List.{sum}
use Rattle.machine.specs.declared.made.Made.{Made}
use Rattle.machine.specs.Machine.{State}
use Rattle.cores.specs.Cores.{Core}
use Rattle.lanes.specs.Lanes.{AreAsFree, AreLeft, AreReady, AreReadyIn, FollowsStep, Laned, offers_at, whole}
use Rattle.schedule.specs.Choices.{chosen_step, rest_after}
use Rattle.schedule.specs.declared.choosing.Choice.{Choice}
use Rattle.schedule.specs.declared.choosing.Choice.TheVariants as choice
use Rattle.lanes.specs.declared.picking.Pick.{Pick}
use Rattle.lanes.specs.declared.picking.Pick.TheVariants.{Offer, Deliver}
use Rattle.world.specs.View.{View}

-- the choice that a pick is: the number of an offer is its place behind all that the lanes before its own offer
abbrev pub choice_of : Laned → Pick → Choice
choice_of l (Offer lane place ask) = choice.Offer (sum (take lane l.lengths) + place) ask
choice_of l (Deliver s) = choice.Deliver s

-- the lane of an offer is there, and its place is among what is kept of that lane's offers
abbrev pub IsPicked : Pick → Laned → Type 0
IsPicked (Offer lane place ask) l = (lane < length l.trees) × (place < length (offers_at l lane))
IsPicked (Deliver s) l = Unit {0}

-- lanes aren't spoilt, and a pick is of them
pub record HasPick (l : Laned) (pick : Pick) : Type 0 where
  pub usable : l.usable ≡ true
  pub picked : IsPicked pick l

-- what is left is what is left behind the choice of a pick
abbrev pub AreLeftBehind : Pick → Laned → Laned → Type 0
AreLeftBehind pick old new = AreLeft (rest_after (choice_of old pick) (whole old)) new

-- a pick was followed: what is left is what is left behind its choice. Where the marks and counts were right at the moment before its step,
-- they are right at that behind it; but if no core may have turned, this is promised where none has
pub record FollowsPick (pick : Pick) (made : Made) (turned : Bool) (world : View) (cores : List Core) (old new : Laned) : Type 0 where
  pub left : AreLeftBehind pick old new
  pub ready : (before : State) (cores_before : List Core) → AreReady world.tables before cores_before old →
      FollowsStep world.tables (chosen_step (choice_of old pick)) made before world.state cores_before cores →
      (turned ≡ false → AreAsFree cores_before cores) → AreReadyIn world cores new
