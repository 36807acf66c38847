-- A world as the program holds it.
use Rattle.std.specs.Prelude.{◌≡◌, ℕ, List, [], Option, None, Some, false, length, slice_index_or, slice_set}
use Rattle.base.specs.Extent.{Extent}
use Rattle.base.specs.declared.step.Step.{Step}
use Rattle.network.specs.Marks.{no_marks}
use Rattle.machine.specs.Block.{BlockState, opened_block}
use Rattle.machine.specs.Machine.{State}
use Rattle.tables.specs.Tables.{Tables}
use Rattle.machine.specs.Transition.{decision_of, messages_of}
use Rattle.blocks.specs.View.{BlockView, wakes_line}
use Rattle.world.specs.inner.Counts.{AreCounted}
use Rattle.world.specs.Keeping.{has_line}
use Rattle.world.specs.View.{IsShaped, space_of, state_or}
use Rattle.world.specs.inner.Counts.{Rows}
use Rattle.world.specs.inner.Tests.{IsMarked}

-- what is kept of a block, if it is
abbrev pub kept_at : List (Option BlockView) → ℕ → Option BlockView
kept_at ks number = slice_index_or ks number None

-- the state of a block, where blocks have so many caches and this one opens at a value
abbrev pub state_at : ℕ → ℕ → List (Option BlockView) → ℕ → BlockState
state_at caches value ks number = state_or caches value (kept_at ks number)

-- at most one of the blocks that are kept has changed
pub record OthersStay (number : ℕ) (old new : List (Option BlockView)) : Type 0 where
  pub items : new ≡ slice_set old number (kept_at new number)

-- a block that is kept has no marks
abbrev pub HasNoMarks : ℕ → Option BlockView → Type 0
HasNoMarks caches None = Unit {0}
HasNoMarks caches (Some k) = k.marks ≡ no_marks caches

-- a block is as it opens, whether it is kept or not, and keeps no line
pub record IsOpened (caches value : ℕ) (k : Option BlockView) : Type 0 where
  pub state : state_or caches value k ≡ opened_block caches value
  pub marks : HasNoMarks caches k
  pub lines : (cache : ℕ) → has_line (space_of k) cache ≡ false

-- each block that is kept has so many lines
abbrev pub AreLined : ℕ → List (Option BlockView) → Type 0
AreLined caches ks = (i : ℕ) (k : BlockView) → kept_at ks i ≡ Some k → length k.state.lines ≡ caches

-- a step wants nothing at a block: it sends nothing, and isn't an ask that acts at a line in I
pub record SendsAndWakesNothing (tables : Tables) (step : Step) (b : BlockState) : Type 0 where
  pub sends : messages_of (decision_of tables step b) b ≡ []
  pub wakes : wakes_line (decision_of tables step b) ≡ false

-- a world holds together: a state of its shape, an opening value and a place for each block, true marks, and counts of them
pub record IsWorld (shape : Extent) (tables : Tables) (values : List ℕ) (ks : List (Option BlockView)) (rows : Rows) (state : State) : Type 0 where
  pub shaped : IsShaped shape state
  pub opening : length values ≡ shape.blocks
  pub places : length ks ≡ shape.blocks
  pub marked : (i : ℕ) → IsMarked tables (kept_at ks i)
  pub counted : AreCounted tables state.blocks rows.requests rows.heads rows.responses
