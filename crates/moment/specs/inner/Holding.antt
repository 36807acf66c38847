-- What holds of every moment that is usable.
use Rattle.std.specs.Prelude.{◌≡◌, true, List, Some, None, if◌then◌else◌}
use Rattle.tables.specs.Tables.{Tables}
use Rattle.machine.specs.Machine.{State, opened}
use Rattle.cores.specs.Cores.{Core}
use Rattle.scenario.specs.Tree.{Both, trees_of}
use Rattle.lanes.specs.Lanes.{AreReady, IsSourceIn, Laned, whole}
use Rattle.moment.specs.Moments.{Moment}
use Rattle.moment.specs.Seen.{Seen}
use Rattle.world.specs.View.{View}
use Rattle.moment.specs.declared.moments.Moment.TheInside.{Inside}
use Rattle.moment.specs.inner.Tracked.{IsTracked}

-- the marks and the counts of the lanes are right; and each core waits for what is pending at its cache
pub record Holds (tables : Tables) (state : State) (cores : List Core) (lanes : Laned) : Type 0 where
  pub ready : AreReady tables state cores lanes
  pub tracked : IsTracked state cores

-- the marks of the lanes' source are right where the world is as it opens; and where the moment isn't spoilt, all of this holds
pub record IsSound {A B : Type 0} (m : Inside A B) : Type 0 where
  pub source : IsSourceIn m.world.tables (opened m.world.shape m.world.opening) m.lanes
  pub holds : m.lanes.usable ≡ true → Holds m.world.tables m.world.state m.cores m.lanes

-- the moment that is at a world, cores and lanes
abbrev pub moment_of : View → List Core → Laned → Moment
moment_of world cores lanes = record { state = world.state; cores = cores; rest = whole lanes }

-- it is seen where the lanes aren't spoilt
abbrev pub seen_of : View → List Core → Laned → Seen
seen_of world cores lanes = record {
  shape = world.shape;
  tables = world.tables;
  opening = world.opening;
  scenario = Both (trees_of lanes.source.trees);
  now = if lanes.usable then Some (moment_of world cores lanes) else None;
}

-- a moment, as contracts see it
abbrev pub seen : {A B : Type 0} → Inside A B → Seen
seen m = seen_of m.world m.cores m.lanes
