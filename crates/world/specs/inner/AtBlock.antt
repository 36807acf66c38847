-- What a step at one of the blocks leaves, kept or not, where blocks have so many caches and this one opens at a value.
use Rattle.std.specs.Prelude.{◌≡◌, ◌≤◌, ◌⊎◌, ℕ, List, Option, IfNone, IfSome, IsSome, false, length}
use Rattle.base.specs.declared.step.Outcome.{Outcome}
use Rattle.base.specs.declared.step.Step.{Step}
use Rattle.tables.specs.Tables.{Tables}
use Rattle.machine.specs.Made.{made_at}
use Rattle.machine.specs.declared.decision.Decision.TheVariants.{Refused}
use Rattle.machine.specs.Transition.{decision_of, messages_of, transition}
use Rattle.blocks.specs.Marking.{marks_of}
use Rattle.blocks.specs.View.{BlockView, acts, acts_at_line, lines_after}
use Rattle.world.specs.Keeping.{has_line}
use Rattle.world.specs.View.{HasSpaceAt, space_of}
use Rattle.world.specs.inner.Holding.{kept_at, state_at, SendsAndWakesNothing, OthersStay}
use Rattle.world.specs.inner.Tests.{IsMarked, IsTested, tested_in}
use Rattle.world.specs.declared.at_block.Visit.{Visit}

-- a block has made a step, which came to this: all marks are right behind it, and a test found what there is
pub record Visits (tables : Tables) (old : BlockView) (step : Step) (visit : Visit) (new : BlockView) : Type 0 where
  pub made : visit.made ≡ made_at tables step old.state
  pub state : new.state ≡ (transition tables step old.state).block
  pub marks : new.marks ≡ marks_of tables new.state
  pub tested : IsTested tables old.state new.state visit.tested
  pub sent : length (messages_of (decision_of tables step old.state) old.state) ≤ tested_in visit.tested
  pub lines : new.space.lines ≡ lines_after (decision_of tables step old.state) old.space.lines
  pub idle : acts (decision_of tables step old.state) ≡ false → new.space ≡ old.space

-- no other block than the one of this number has changed, that one has true marks, and where no cell acts it keeps its room
pub record IsVisited (tables : Tables) (caches value number : ℕ) (step : Step) (old new : List (Option BlockView)) : Type 0 where
  pub others : OthersStay number old new
  pub marked : IsMarked tables (kept_at new number)
  pub idle : acts (decision_of tables step (state_at caches value old number)) ≡ false → space_of (kept_at new number) ≡ space_of (kept_at old number)
  pub lines : (cache : ℕ) → acts_at_line (decision_of tables step (state_at caches value old number)) cache ≡ false →
      has_line (space_of (kept_at new number)) cache ≡ has_line (space_of (kept_at old number)) cache

-- the block has made a step, which came to this
pub record HasStepped (tables : Tables) (caches value number : ℕ) (step : Step) (old : List (Option BlockView)) (visit : Visit)
    (new : List (Option BlockView)) : Type 0 where
  pub visited : IsVisited tables caches value number step old new
  pub made : visit.made ≡ made_at tables step (state_at caches value old number)
  pub state : (transition tables step (state_at caches value old number)).block ≡ state_at caches value new number
  pub tested : IsTested tables (state_at caches value old number) (state_at caches value new number) visit.tested
  pub sent : length (messages_of (decision_of tables step (state_at caches value old number)) (state_at caches value old number)) ≤ tested_in visit.tested

-- the block is in the state that it was in before a step
pub record HasStayed (tables : Tables) (caches value number : ℕ) (step : Step) (old new : List (Option BlockView)) : Type 0 where
  pub visited : IsVisited tables caches value number step old new
  pub state : state_at caches value new number ≡ state_at caches value old number

-- a block is kept for a step, or is as it was: no other one has changed, its state is the same, its marks are as true as they were, it
-- keeps the same lines, and where no cell acts nothing has changed
pub record Touches (tables : Tables) (caches value number : ℕ) (step : Step) (old new : List (Option BlockView)) : Type 0 where
  pub others : OthersStay number old new
  pub state : state_at caches value new number ≡ state_at caches value old number
  pub marked : IsMarked tables (kept_at old number) → IsMarked tables (kept_at new number)
  pub idle : acts (decision_of tables step (state_at caches value old number)) ≡ false → kept_at new number ≡ kept_at old number
  pub lines : (cache : ℕ) → has_line (space_of (kept_at new number)) cache ≡ has_line (space_of (kept_at old number)) cache

-- no cell acts on a step at a block, and this is the outcome; or the block is kept
pub record IsTouched (tables : Tables) (caches value number : ℕ) (step : Step) (old : List (Option BlockView)) (done : Option Outcome)
    (new : List (Option BlockView)) : Type 0 where
  pub refused : IfSome done (λ what. decision_of tables step (state_at caches value old number) ≡ Refused what)
  pub kept : IfNone done (IsSome (kept_at new number))

-- the room that a step wants at a block was made, or not: no other block has changed, its state is the same, its marks are as true as they
-- were, it keeps the same lines, and where no cell acts its room is the same
pub record GetsReady (tables : Tables) (caches value number : ℕ) (step : Step) (old new : List (Option BlockView)) : Type 0 where
  pub others : OthersStay number old new
  pub state : state_at caches value new number ≡ state_at caches value old number
  pub marked : IsMarked tables (kept_at old number) → IsMarked tables (kept_at new number)
  pub idle : acts (decision_of tables step (state_at caches value old number)) ≡ false → space_of (kept_at new number) ≡ space_of (kept_at old number)
  pub lines : (cache : ℕ) → has_line (space_of (kept_at new number)) cache ≡ has_line (space_of (kept_at old number)) cache

-- this outcome is what a step will have at a block, and there is room for it
pub record ForeseesAt (tables : Tables) (caches value number : ℕ) (step : Step) (old : List (Option BlockView)) (what : Outcome)
    (new : List (Option BlockView)) : Type 0 where
  pub outcome : what ≡ (transition tables step (state_at caches value old number)).outcome
  pub room : HasSpaceAt (decision_of tables step (state_at caches value old number)) (state_at caches value old number) (space_of (kept_at new number))

-- a step wants no memory at the block: there is room for it, or it wants nothing
abbrev pub NeedsNoMemoryAt : Tables → ℕ → ℕ → ℕ → Step → List (Option BlockView) → Type 0
NeedsNoMemoryAt tables caches value number step ks =
    HasSpaceAt (decision_of tables step (state_at caches value ks number)) (state_at caches value ks number) (space_of (kept_at ks number))
    ⊎ SendsAndWakesNothing tables step (state_at caches value ks number)
