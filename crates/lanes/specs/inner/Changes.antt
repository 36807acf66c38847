-- What changing a lane leaves of the lanes.
use Rattle.std.specs.Prelude.{◌≡◌, ◌≢◌, ◌<◌, ◌+◌, ◌⊎◌, ℕ, Bool, false, List, Option, Some, IfSome, length, take, slice_index, slice_index_or, slice_set, true}
use Rattle.std.specs.List.{sum}
use Rattle.base.specs.Steps.{block_of}
use Rattle.base.specs.declared.step.Step.{Step}
use Rattle.base.specs.declared.ids.BlockId.{BlockId}
use Rattle.base.specs.declared.ids.CacheId.{CacheId}
use Rattle.base.specs.declared.ids.Place.{Place}
use Rattle.base.specs.declared.ids.Place.TheVariants.{Cache}
use Rattle.machine.specs.Coherence.{line_at}
use Rattle.machine.specs.declared.made.Made.{Made}
use Rattle.machine.specs.Machine.{State}
use Rattle.tables.specs.Tables.{Tables}
use Rattle.blocks.specs.declared.block.asking.HeldAsks.{HeldAsks}
use Rattle.cores.specs.Cores.{Core, is_free}
use Rattle.scenario.specs.Alike.{Alike}
use Rattle.scenario.specs.Taking.{left}
use Rattle.lanes.specs.Lanes.{Laned, AreReady, FollowsStep, listed_at, offers_at, puttable, whole}
use Rattle.lanes.specs.inner.Kept.{AreListed, IsListed, lanes_of}
use Rattle.schedule.specs.Listed.{IsMarked, Listed, nothing_listed}
use Rattle.schedule.specs.Marks.{all_marked, marked_by, offers_by}
use Rattle.schedule.specs.Owned.{IsMarkedIf}
use Rattle.world.specs.View.{View}
use Rattle.std.specs.List.{Contains}

-- one lane was listed anew: of the others the same is kept, and they are where they were
pub record KeepsOtherLanes (lane : ℕ) (old new : Laned) : Type 0 where
  pub count : length new.trees ≡ length old.trees
  pub ready : new.ready ≡ old.ready
  pub same : (other : ℕ) → other ≢ lane → listed_at new other ≡ listed_at old other
  pub listed : (other : ℕ) → other ≢ lane → IsListed old other → IsListed new other

-- an offer of all of them was taken from one lane
pub record TakesFrom (lane offer : ℕ) (old new : Laned) : Type 0 where
  pub usable : new.usable ≡ true
  pub there : lane < length old.trees
  pub rest : Alike (whole new) (left (whole old) offer)
  pub others : KeepsOtherLanes lane old new

-- the offer at a place of a lane was taken, which has as many before it as the lanes before it have, and its place
abbrev pub TakesPlace : ℕ → ℕ → Laned → Laned → Type 0
TakesPlace lane place old new = TakesFrom lane (sum (take lane old.lengths) + place) old new

-- the lane is there, if there is one
abbrev pub IsLaneThere : Laned → Option ℕ → Type 0
IsLaneThere l anew = IfSome anew (λ lane. lane < length l.trees)

-- the marks of a lane are right in a world
abbrev pub IsLaneMarked : View → Laned → ℕ → Type 0
IsLaneMarked world l lane = IsMarked world.tables world.state (listed_at l lane)

-- those of the lane that was marked anew are, if one was
abbrev pub IsMarkedAnew : View → Laned → Option ℕ → Type 0
IsMarkedAnew world l anew = IfSome anew (λ lane. IsLaneMarked world l lane)

-- a lane was marked anew in a world; or it wasn't, and its marks are those that it had
abbrev pub IsLaneMarkedIf : View → ℕ → Laned → Laned → Bool → Type 0
IsLaneMarkedIf world lane old new anew = IsMarkedIf world.tables world.state anew (listed_at old lane) (listed_at new lane)

-- how many asks can be put by their marks
abbrev pub count_by : List Core → Listed → ℕ
count_by cores l = length (offers_by cores 0 l.asks l.unheld)

-- the count of one lane is that by its marks, and the others are as they were
abbrev pub counted_at : List Core → ℕ → Laned → Laned
counted_at cores lane l = record l { ready = slice_set l.ready lane (count_by cores (listed_at l lane)) }

-- the marks of one lane are right, and the others are as they were
abbrev pub marked_in : Tables → State → ℕ → Laned → Laned
marked_in tables state lane l = record l { listed = slice_set l.listed lane (all_marked tables state (listed_at l lane)) }

-- the count of a lane is that by its marks; or it is as it was, and these lanes don't have it among them
abbrev pub IsCountedIn : List Core → List Listed → List ℕ → List ℕ → List ℕ → ℕ → Type 0
IsCountedIn cores lanes which old new lane =
    (slice_index new lane ≡ count_by cores (slice_index_or lanes lane nothing_listed))
    ⊎ ((slice_index new lane ≡ slice_index old lane) × ¬ Contains which lane)

-- the marks of a lane were made anew for a core and a block; or it is as it was, and is the one that was done, or these lanes don't have it among
-- them
abbrev pub IsMarkedIn : HeldAsks → CacheId → BlockId → List ℕ → Option ℕ → Listed → Listed → ℕ → Type 0
IsMarkedIn held core block which done old new lane =
    (new ≡ marked_by held core block old) ⊎ ((new ≡ old) × ((done ≡ Some lane) ⊎ (¬ Contains which lane)))

-- nothing has changed but marks
pub record ChangesMarks (old new : Laned) : Type 0 where
  pub source : new.source ≡ old.source
  pub opened : new.as_opened ≡ old.as_opened
  pub trees : new.trees ≡ old.trees
  pub stocks : new.stocks ≡ old.stocks
  pub lengths : new.lengths ≡ old.lengths
  pub ready : new.ready ≡ old.ready
  pub reached : new.reached ≡ old.reached
  pub usable : new.usable ≡ old.usable
  pub long : length new.listed ≡ length old.listed
  pub asks : (lane : ℕ) → offers_at new lane ≡ offers_at old lane

-- nothing has changed but counts of what can be put
pub record ChangesCounts (old new : Laned) : Type 0 where
  pub same : new ≡ record old { ready = new.ready }
  pub long : length new.ready ≡ length old.ready

-- the count of a lane is that by its marks; or it is as it was, and the lane has no ask of a cache that this is
abbrev pub IsCountedAt : List Core → Option Place → Laned → Laned → ℕ → Type 0
IsCountedAt cores at old new lane =
    (slice_index new.ready lane ≡ count_by cores (listed_at old lane))
    ⊎ ((slice_index new.ready lane ≡ slice_index old.ready lane)
    × ((core : CacheId) → at ≡ Some (Cache core) → ¬ Contains (lanes_of old.reached core.0) lane))

-- so it is of each lane
abbrev pub EachIsCountedAt : List Core → Option Place → Laned → Laned → Type 0
EachIsCountedAt cores at old new = (lane : ℕ) → lane < length old.trees → IsCountedAt cores at old new lane

-- the count of each lane that may offer an ask of a core is that by its marks; or it is as it was, and the lane may offer none
abbrev pub EachIsCountedOf : CacheId → List Core → Laned → Laned → Type 0
EachIsCountedOf core cores old new =
    (lane : ℕ) → lane < length old.trees → IsCountedIn cores old.listed (lanes_of old.reached core.0) old.ready new.ready lane

-- the marks of each lane that may offer an ask of a core were made anew about a block, but for the one that was done
abbrev pub EachIsMarkedOf : CacheId → HeldAsks → BlockId → Option ℕ → Laned → Laned → Type 0
EachIsMarkedOf core held block done old new = (lane : ℕ) → lane < length old.trees →
    IsMarkedIn held core block (lanes_of old.reached core.0) done (listed_at old lane) (listed_at new lane) lane

-- a lane may offer an ask of the core whose cache this is
abbrev pub IsReachedAt : Option Place → Laned → ℕ → Type 0
IsReachedAt at l lane = (core : CacheId) × (at ≡ Some (Cache core)) × Contains (lanes_of l.reached core.0) lane

-- the counts of all lanes that may have an ask of a cache that this is are those by their marks
abbrev pub AreCountedAt : List Core → Option Place → Laned → Type 0
AreCountedAt cores at l = (core : CacheId) (lane : ℕ) → at ≡ Some (Cache core) → lane < length l.trees → Contains (lanes_of l.reached core.0) lane →
    slice_index l.ready lane ≡ count_by cores (listed_at l lane)

-- the count of a lane is that by its marks; or it is as it was, and this isn't the lane
abbrev pub IsCountedIf : List Core → Option ℕ → Laned → Laned → ℕ → Type 0
IsCountedIf cores anew old new lane =
    (slice_index new.ready lane ≡ count_by cores (listed_at old lane))
    ⊎ ((slice_index new.ready lane ≡ slice_index old.ready lane) × (anew ≢ Some lane))

-- so it is of each lane
abbrev pub EachIsCountedIf : List Core → Option ℕ → Laned → Laned → Type 0
EachIsCountedIf cores anew old new = (lane : ℕ) → lane < length old.trees → IsCountedIf cores anew old new lane

-- the marks of each lane are right
abbrev pub AreMarked : Tables → State → Laned → Type 0
AreMarked tables state l = (lane : ℕ) → lane < length l.trees → IsMarked tables state (listed_at l lane)

-- the marks of each lane are right, or were right before; and but for one lane at most these and the counts were right before
pub record WereReady (tables : Tables) (before : State) (cores_before : List Core) (now : State) (but : Option ℕ) (l : Laned) : Type 0 where
  pub marked : (lane : ℕ) → lane < length l.trees → IsMarked tables now (listed_at l lane) ⊎ IsMarked tables before (listed_at l lane)
  pub still : (lane : ℕ) → lane < length l.trees → but ≢ Some lane → IsMarked tables before (listed_at l lane)
  pub counted : (lane : ℕ) → lane < length l.trees → but ≢ Some lane → slice_index l.ready lane ≡ puttable tables before cores_before (offers_at l lane)

-- where lanes were ready at a moment before a step to a world, they were ready but for one lane at most, in spite of what was taken
abbrev pub WereReadyBut : View → Laned → Laned → Option ℕ → Type 0
WereReadyBut world old new but = (before : State) (cores_before : List Core) → before.broken ≡ false →
    AreReady world.tables before cores_before old → WereReady world.tables before cores_before world.state but new

-- behind a step about a block, which came to this, the marks are right, where they were before it but for one lane at most, and those of the
-- lane that was done are; if what is kept of each lane is right
abbrev pub MarksAgain : Tables → Made → BlockId → Option ℕ → Laned → Laned → Type 0
MarksAgain tables made block done old new = (now : State) (step : Step) (before : State) (cores_before cores_now : List Core) (but : Option ℕ) →
    AreListed old → IfSome done (λ lane. IsMarked tables now (listed_at old lane)) → before.broken ≡ false → now.broken ≡ false → block.0 ≡ block_of step →
    FollowsStep tables step made before now cores_before cores_now → WereReady tables before cores_before now but old → AreMarked tables now new

-- two moments agree on a core: on whether it is free, and on the lines of its cache
pub record Agree (core : ℕ) (before behind : State) (cores_before cores_behind : List Core) : Type 0 where
  pub free : is_free cores_behind core ≡ is_free cores_before core
  pub lines : (block : ℕ) → line_at behind core block ≡ line_at before core block

-- they agree on each core but that of the cache where something was done, if it was done at a cache, and on all lines but those of
-- one block
pub record AgreeBut (at : Option Place) (block : ℕ) (before behind : State) (cores_before cores_behind : List Core) : Type 0 where
  pub cores : (core : CacheId) → at ≢ Some (Cache core) → Agree core.0 before behind cores_before cores_behind
  pub blocks : (core other : ℕ) → other ≢ block → line_at behind core other ≡ line_at before core other
