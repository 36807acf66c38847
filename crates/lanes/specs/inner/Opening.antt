-- What listing all lanes from their source makes of them.
use Rattle.std.specs.Prelude.{◌≡◌, ℕ, Bool, true, if◌then◌else◌, List, [], map}
use Rattle.tables.specs.Tables.{Tables}
use Rattle.machine.specs.Machine.{State}
use Rattle.cores.specs.Cores.{Core}
use Rattle.scenario.specs.Tree.{Tree, trees_of}
use Rattle.lanes.specs.Fitting.{lane_trees}
use Rattle.lanes.specs.Lanes.{AreReadyIn, IsSourceIn, IsSpoilt, Laned}
use Rattle.lanes.specs.inner.Changes.{AreMarked, KeepsOtherLanes, marked_in}
use Rattle.lanes.specs.inner.Kept.{AreListed, IsLevel, IsListed}
use Rattle.world.specs.View.{View}

-- all lanes were listed, marked and counted, and are spoilt no longer
pub record ListsAll (world : View) (cores : List Core) (old new : Laned) : Type 0 where
  pub usable : new.usable ≡ true
  pub trees : new.trees ≡ old.trees
  pub level : IsLevel new
  pub listed : AreListed new
  pub marked : AreMarked world.tables world.state new
  pub ready : AreReadyIn world cores new

-- lanes are spoilt, and go on from all of their source, whose marks are right in a world
pub record IsReset (tables : Tables) (state : State) (l : Laned) : Type 0 where
  pub spoilt : IsSpoilt l
  pub whole : l.trees ≡ l.source.trees
  pub source : IsSourceIn tables state l

-- so it is in some world
abbrev pub AreReset : Laned → Type 0
AreReset l = (tables : Tables) × (state : State) × IsReset tables state l

-- a lane that was listed already has the marks that are right; or nothing has changed
pub record CopiesMarks (lane : ℕ) (copied : Bool) (old new : Laned) : Type 0 where
  pub level : IsLevel old
  pub listed : copied ≡ true → IsListed old lane
  pub marks : (tables : Tables) (state : State) → IsReset tables state old → new ≡ (if copied then marked_in tables state lane old else old)

-- one lane was listed, or was listed already, and then marked
pub record ListsWhole (tables : Tables) (state : State) (lane : ℕ) (old new : Laned) : Type 0 where
  pub reset : IsReset tables state new
  pub mid : Laned
  pub level : IsLevel mid
  pub here : IsListed mid lane
  pub others : KeepsOtherLanes lane old mid
  pub marks : new ≡ marked_in tables state lane mid
  pub trees : mid.trees ≡ old.trees

-- nothing is listed of the lanes of a tree, no marks are noted, and all is left
pub record AreUnlisted (tree : Tree) (l : Laned) : Type 0 where
  pub spoilt : IsSpoilt l
  pub whole : l.trees ≡ l.source.trees
  pub of : trees_of l.source.trees ≡ lane_trees tree
  pub none : l.source.marks ≡ []

-- the marks that there are were noted as those of the source
abbrev pub with_marks : Laned → Laned
with_marks l = record l { source = record { trees = l.source.trees; marks = map (λ x. x.unheld) l.listed } }
