use Rattle.std.specs.Prelude.{◌≡◌, ℕ, List, [], ◌∷◌, ◌++◌, Option, Some, None, Bool, false, slice_get, slice_index_or, length, map}
use Rattle.std.specs.Option.{option_map, option_map_or}
use Rattle.base.specs.Extent.{Extent, IsWithinLimits}
use Rattle.base.specs.Steps.{block_of}
use Rattle.base.specs.declared.ids.CacheId.{CacheId}
use Rattle.base.specs.declared.step.Step.{Step}
use Rattle.base.specs.declared.step.Outcome.{Outcome}
use Rattle.directory_table.specs.declared.state.DirectoryState.{DirectoryState}
use Rattle.control.specs.Sharing.{shares}
use Rattle.tables.specs.Tables.{Tables}
use Rattle.machine.specs.declared.decision.Decision.{Decision}
use Rattle.machine.specs.Block.{BlockState, opened_block}
use Rattle.machine.specs.Transition.{decision_of}
use Rattle.machine.specs.Machine.{State, Next, IsHistory}
use Rattle.blocks.specs.View.{BlockView, Space, HasSpaceFor, acts, wakes_line}

-- a world as contracts see it: its shape, its tables, the value that each block opened with, the state that its steps have led to,
-- the room of each block that is kept, and how many messages its steps have tested for being held
pub record View : Type 0 where
  pub shape : Extent
  pub tables : Tables
  pub opening : List ℕ
  pub state : State
  pub spaces : List (Option Space)
  pub tested : ℕ

-- a block that isn't kept is as it opens
abbrev pub state_or : ℕ → ℕ → Option BlockView → BlockState
state_or caches value None = opened_block caches value
state_or caches value (Some k) = k.state

-- the states of all blocks, given their opening values
abbrev pub states : ℕ → List ℕ → List (Option BlockView) → List BlockState
states caches [] ks = []
states caches (value ∷ values) [] = opened_block caches value ∷ states caches values []
states caches (value ∷ values) (k ∷ ks) = state_or caches value k ∷ states caches values ks

-- the room of a block, if it is kept
abbrev pub space_of : Option BlockView → Option Space
space_of None = None
space_of (Some k) = Some k.space

-- the room of each block that is kept
abbrev pub spaces_of : List (Option BlockView) → List (Option Space)
spaces_of ks = map space_of ks

-- each block has a line for each cache
abbrev pub AllLined : ℕ → List BlockState → Type 0
AllLined caches [] = Unit {0}
AllLined caches (b ∷ bs) = (length b.lines ≡ caches) × AllLined caches bs

-- a shape is within the limits, and a state has the blocks and the lines of it
pub record IsShaped (shape : Extent) (state : State) : Type 0 where
  pub within : IsWithinLimits shape
  pub blocks : length state.blocks ≡ shape.blocks
  pub lines : AllLined shape.caches state.blocks

-- a state came of a step, with this outcome
abbrev pub stepped : State → Outcome → Next
stepped s what = record { state = s; outcome = what }

-- there is room for a decision: a block that isn't kept has none, so that no cell may act at it
abbrev pub HasSpaceAt : Decision → BlockState → Option Space → Type 0
HasSpaceAt d b None = acts d ≡ false
HasSpaceAt d b (Some space) = HasSpaceFor d b space

-- there is room for a step at a block, if the block is there
abbrev pub HasSpaceIn : Tables → Step → Option BlockState → Option Space → Type 0
HasSpaceIn tables step None space = Unit {0}
HasSpaceIn tables step (Some b) space = HasSpaceAt (decision_of tables step b) b space

-- there is room for a step: for the messages that it sends, and for the line and the block that it acts at
abbrev pub HasRoomToStep : View → Step → Type 0
HasRoomToStep w step =
    w.state.broken ≡ false →
    HasSpaceIn w.tables step (slice_get w.state.blocks (block_of step)) (slice_index_or w.spaces (block_of step) None)

-- whether a step at a block is an ask that acts at a line in I, if the block is there
abbrev pub wakes_at : Tables → Step → Option BlockState → Bool
wakes_at tables step None = false
wakes_at tables step (Some b) = wakes_line (decision_of tables step b)

-- whether a step is an ask that acts at a line in I
abbrev pub wakes : View → Step → Bool
wakes w step = wakes_at w.tables step (slice_get w.state.blocks (block_of step))

-- whatever led to the old world, followed by these steps, leads to the new one
abbrev pub LeadsOn : View → List Step → View → Type 0
LeadsOn old steps new =
    (opening : List ℕ) (before : List Step) → IsHistory old.shape old.tables opening before old.state →
    IsHistory new.shape new.tables opening (before ++ steps) new.state

-- state, owner and memory of a block's home, if the block is there
abbrev pub home_at : State → ℕ → Option (DirectoryState × Option CacheId × ℕ)
home_at s block = option_map (λ b. (b.home.state, b.home.owner, b.home.memory)) (slice_get s.blocks block)

-- whether a cache is among the sharers of a block that is there
abbrev pub shares_at : State → ℕ → ℕ → Bool
shares_at s cache block = option_map_or (λ b. shares b.home.sharers cache) (slice_get s.blocks block) false
