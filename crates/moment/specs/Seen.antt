-- A moment as contracts see it.
use Rattle.std.specs.Prelude.{◌≡◌, ℕ, List, [], Option, Some, MatchOption, IfSome, slice_get}
use Rattle.std.specs.Option.{option_map_or}
use Rattle.base.specs.Extent.{Extent}
use Rattle.base.specs.declared.step.Step.{Step}
use Rattle.tables.specs.Tables.{Tables}
use Rattle.machine.specs.declared.made.Made.{Made}
use Rattle.machine.specs.Made.{made_of}
use Rattle.scenario.specs.Alike.{Alike}
use Rattle.scenario.specs.Tree.{Tree}
use Rattle.schedule.specs.Choices.{chosen_step}
use Rattle.schedule.specs.declared.choosing.Choice.{Choice}
use Rattle.world.specs.View.{View}
use Rattle.moment.specs.Moments.{Moment, IsAtRest, choices_at, moment_after, opened_moment}

-- the shape of the world, its tables and opening values, the scenario of which all is left where it is restarted, and the moment that it is at;
-- none where memory was refused, until it is restarted
pub record Seen : Type 0 where
  pub shape : Extent
  pub tables : Tables
  pub opening : List ℕ
  pub scenario : Tree
  pub now : Option Moment

-- what can happen next
abbrev pub choices_in : Seen → List Choice
choices_in s = option_map_or (choices_at s.tables) s.now []

-- it is at this moment, but that what is left may be another scenario that is alike
pub record IsAt (s : Seen) (m : Moment) : Type 0 where
  pub rest : Tree
  pub now : s.now ≡ Some (record { state = m.state; cores = m.cores; rest = rest })
  pub alike : Alike rest m.rest

-- the k-th choice has been made: by this step, which came to this
pub record MakesChoice (old : Seen) (k : ℕ) (step : Step) (made : Made) (new : Seen) : Type 0 where
  pub before : Moment
  pub was : old.now ≡ Some before
  pub choice : Choice
  pub taken : slice_get (choices_at old.tables before) k ≡ Some choice
  pub step_is : step ≡ chosen_step choice
  pub told : made ≡ made_of old.tables before.state step
  pub leads : IsAt new (moment_after old.tables before choice)

-- nothing is left to do
abbrev pub Rests : Seen → Type 0
Rests s = MatchOption s.now ⊥ IsAtRest

-- shape, tables, opening values and scenario are the same
pub record IsLike (old new : Seen) : Type 0 where
  pub shape : new.shape ≡ old.shape
  pub tables : new.tables ≡ old.tables
  pub opening : new.opening ≡ old.opening
  pub scenario : new.scenario ≡ old.scenario

-- a world is that of the moment
pub record IsWorldOf (w : View) (s : Seen) : Type 0 where
  pub shape : w.shape ≡ s.shape
  pub tables : w.tables ≡ s.tables
  pub opening : w.opening ≡ s.opening
  pub state : IfSome s.now (λ m. w.state ≡ m.state)

-- a run of a scenario starts in a world; it is restarted from that scenario, or from one that is alike
pub record StartsIn (w : View) (tree : Tree) (s : Seen) : Type 0 where
  pub world : IsWorldOf w s
  pub at : IsAt s (opened_moment w.shape w.opening tree)
  pub scenario : Alike s.scenario tree
