-- What is left of a scenario, by its lanes: the trees that go on at once at its top.
use Rattle.std.specs.Prelude.{◌≡◌, ◌≢◌, ◌<◌, ℕ, Bool, true, false, if◌then◌else◌, List, [], Some, length, map, slice_get, slice_index, slice_index_or}
use Rattle.base.specs.declared.ids.CacheId.{CacheId}
use Rattle.base.specs.declared.ids.Place.TheVariants.{Cache}
use Rattle.base.specs.declared.step.CoreAsk.{CoreAsk}
use Rattle.base.specs.declared.step.Step.{Step}
use Rattle.tables.specs.Tables.{Tables}
use Rattle.machine.specs.declared.made.Made.{Made}
use Rattle.machine.specs.Machine.{State}
use Rattle.machine.specs.Made.{IsTold, place_of}
use Rattle.cores.specs.Cores.{Core, is_free}
use Rattle.scenario.specs.Alike.{Alike}
use Rattle.scenario.specs.Tree.{Tree, Both, Nil, Seq, trees_of}
use Rattle.scenario.specs.Taking.{offers}
use Rattle.cursors.specs.Stock.{Stock}
use Rattle.schedule.specs.Choices.{choices_of, offers_from}
use Rattle.schedule.specs.declared.choosing.Choice.{Choice}
use Rattle.schedule.specs.Listed.{IsMarked, Listed, is_unheld, nothing_listed}
use Rattle.world.specs.View.{View}

-- the parts that a cursor holds, in use or kept for later, and those that it may want
pub record Stocked : Type 0 where
  pub held : Stock
  pub wanted : Stock

-- of each lane the tree that it goes on from where it is restarted, and the marks that the offers of this had where lanes were opened
pub record Source : Type 0 where
  pub trees : List Tree
  pub marks : List (List Bool)

-- what lanes are restarted from, and of each whether what is listed is about that; of each lane the tree that is left, the parts of its
-- cursor, what it offers, how many offers that is, and how many of them can be put; of each core the lanes that may offer an ask of it;
-- and whether they aren't spoilt
pub record Laned : Type 0 where
  pub source : Source
  pub as_opened : List Bool
  pub trees : List Tree
  pub stocks : List Stocked
  pub listed : List Listed
  pub lengths : List ℕ
  pub ready : List ℕ
  pub reached : List (List ℕ)
  pub usable : Bool

-- the tree that lanes are: all of theirs at once
abbrev pub whole : Laned → Tree
whole l = Both (trees_of l.trees)

-- what is kept of a lane's offers
abbrev pub listed_at : Laned → ℕ → Listed
listed_at l lane = slice_index_or l.listed lane nothing_listed

abbrev pub offers_at : Laned → ℕ → List CoreAsk
offers_at l lane = (listed_at l lane).asks

-- how many of some asks can be put
abbrev pub puttable : Tables → State → List Core → List CoreAsk → ℕ
puttable tables state cores asks = length (offers_from tables state cores 0 asks)

-- memory was refused, and nothing is known of what is left
abbrev pub IsSpoilt : Laned → Type 0
IsSpoilt l = l.usable ≡ false

-- the same lanes, but that they are spoilt
abbrev pub spoilt : Laned → Laned
spoilt l = record l { usable = false }

-- what can happen next: nothing where lanes are spoilt
abbrev pub choices_by : View → List Core → Laned → List Choice
choices_by world cores l = if l.usable then choices_of world.tables world.state cores (whole l) else []

-- lanes aren't spoilt, and nothing is offered
pub record AreDone (l : Laned) : Type 0 where
  pub usable : l.usable ≡ true
  pub nothing_offered : offers (whole l) ≡ []

-- lanes aren't spoilt, and a tree is left, or one that is alike
pub record AreLeft (tree : Tree) (l : Laned) : Type 0 where
  pub usable : l.usable ≡ true
  pub alike : Alike (whole l) tree

-- where the world isn't broken, the marks beside the offers are right, and so are the counts of what can be put
pub record AreReady (tables : Tables) (state : State) (cores : List Core) (l : Laned) : Type 0 where
  pub marked : state.broken ≡ false → (lane : ℕ) → lane < length l.trees → IsMarked tables state (listed_at l lane)
  pub counted : state.broken ≡ false → (lane : ℕ) → lane < length l.trees → slice_index l.ready lane ≡ puttable tables state cores (offers_at l lane)

-- so are they in a world and with these cores
abbrev pub AreReadyIn : View → List Core → Laned → Type 0
AreReadyIn world cores l = AreReady world.tables world.state cores l

-- lanes aren't spoilt, and the marks and counts are right in a world and with these cores
pub record AreCurrent (world : View) (cores : List Core) (l : Laned) : Type 0 where
  pub usable : l.usable ≡ true
  pub ready : AreReadyIn world cores l

-- the tree that a lane goes on from where it is restarted
abbrev pub source_at : Laned → ℕ → Tree
source_at l lane = slice_index_or l.source.trees lane (Seq Nil)

-- the marks that were noted of the source are right in a world
abbrev pub IsSourceIn : Tables → State → Laned → Type 0
IsSourceIn tables state l = (lane : ℕ) (marks : List Bool) →
    slice_get l.source.marks lane ≡ Some marks → marks ≡ map (is_unheld tables state) (offers (source_at l lane))

-- all of the source is left, and the marks and counts are right in a world and with these cores
pub record AreAgain (world : View) (cores : List Core) (l : Laned) : Type 0 where
  pub usable : l.usable ≡ true
  pub whole : l.trees ≡ l.source.trees
  pub ready : AreReadyIn world cores l

-- so it is, the source is this tree or alike, and its marks are right in this world too
pub record AreOpened (tree : Tree) (world : View) (cores : List Core) (l : Laned) : Type 0 where
  pub again : AreAgain world cores l
  pub alike : Alike (Both (trees_of l.source.trees)) tree
  pub source : IsSourceIn world.tables world.state l

-- the cores that are free are those that were
abbrev pub AreAsFree : List Core → List Core → Type 0
AreAsFree before behind = (core : ℕ) → is_free behind core ≡ is_free before core

-- a step has led from a moment to another, and it is told what it came to; but for the core of the cache whose cell acted, if one's did, cores
-- are free where they were
pub record FollowsStep (tables : Tables) (step : Step) (made : Made) (before behind : State) (cores_before cores_behind : List Core) : Type 0 where
  pub told : IsTold tables before step made behind
  pub free : (core : CacheId) → place_of made ≢ Some (Cache core) → is_free cores_behind core.0 ≡ is_free cores_before core.0
