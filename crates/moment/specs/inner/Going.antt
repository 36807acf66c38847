-- A moment by its parts: a world, its cores and what is left by lanes. How it goes on by a pick.
use Rattle.std.specs.Prelude.{◌≡◌, ℕ, List, Some, slice_get}
use Rattle.base.specs.declared.step.Step.{Step}
use Rattle.machine.specs.declared.made.Made.{Made}
use Rattle.machine.specs.Made.{made_of}
use Rattle.cores.specs.Cores.{Core}
use Rattle.lanes.specs.Lanes.{Laned, whole}
use Rattle.lanes.specs.Picks.{HasPick, choice_of}
use Rattle.lanes.specs.declared.picking.Pick.{Pick}
use Rattle.schedule.specs.Choices.{choices_of, chosen_step}
use Rattle.moment.specs.Moments.{moment_after}
use Rattle.moment.specs.Seen.{IsAt}
use Rattle.moment.specs.inner.Holding.{Holds, moment_of, seen_of}
use Rattle.world.specs.View.{View}

-- lanes aren't spoilt, and a pick of theirs is what can happen next
pub record IsNext (pick : Pick) (world : View) (cores : List Core) (lanes : Laned) : Type 0 where
  pub there : HasPick lanes pick
  pub holds : Holds world.tables world.state cores lanes
  pub choice : (k : ℕ) × (slice_get (choices_of world.tables world.state cores (whole lanes)) k ≡ Some (choice_of lanes pick))

-- its step was made, which came to this, and leads to the moment behind its choice, of which all holds again
pub record GoesOn (pick : Pick) (step : Step) (made : Made) (world : View) (cores : List Core) (lanes : Laned)
    (world_now : View) (cores_now : List Core) (lanes_now : Laned) : Type 0 where
  pub step_is : step ≡ chosen_step (choice_of lanes pick)
  pub told : made ≡ made_of world.tables world.state step
  pub leads : IsAt (seen_of world_now cores_now lanes_now) (moment_after world.tables (moment_of world cores lanes) (choice_of lanes pick))
  pub holds : Holds world_now.tables world_now.state cores_now lanes_now

-- the world is under the same shape, tables and opening values, and lanes are restarted from the same source
pub record StaysUnder (world new : View) (lanes lanes_now : Laned) : Type 0 where
  pub shape : new.shape ≡ world.shape
  pub tables : new.tables ≡ world.tables
  pub opening : new.opening ≡ world.opening
  pub source : lanes_now.source ≡ lanes.source
