-- What a world keeps of its blocks, and when a step changes that.
use Rattle.std.specs.Prelude.{◌≡◌, ◌≢◌, ◌&&◌, ℕ, List, [], ◌∷◌, Option, None, Some, Bool, false, true, not, slice_get, slice_index_or}
use Rattle.base.specs.Steps.{block_of}
use Rattle.base.specs.declared.step.Step.{Step}
use Rattle.tables.specs.Tables.{Tables}
use Rattle.machine.specs.Block.{BlockState}
use Rattle.machine.specs.Machine.{State, next}
use Rattle.machine.specs.Transition.{decision_of}
use Rattle.rows.specs.Flags.{is_set}
use Rattle.blocks.specs.View.{Space, acts, acts_at_line}
use Rattle.world.specs.View.{View}

-- the room of a block, if it is kept
abbrev pub space_at : View → ℕ → Option Space
space_at w block = slice_index_or w.spaces block None

-- whether a block keeps the line of a cache: one that isn't kept keeps none
abbrev pub has_line : Option Space → ℕ → Bool
has_line None cache = false
has_line (Some space) cache = is_set space.lines cache

-- whether a world keeps the line of a block in a cache
abbrev pub keeps_line : View → ℕ → ℕ → Bool
keeps_line w block cache = has_line (space_at w block) cache

-- whether a cell acts on a step at its block, if that is there
abbrev pub acts_at : Tables → Step → Option BlockState → Bool
acts_at tables step None = false
acts_at tables step (Some b) = acts (decision_of tables step b)

-- whether a cell acts on a step in a state: none does in a broken one, nor where the step is held, absent or idle, or its cell is blank
abbrev pub is_acted_in : Tables → State → Step → Bool
is_acted_in tables s step = not s.broken && acts_at tables step (slice_get s.blocks (block_of step))

-- whether a cell acts on a step in a world
abbrev pub is_acted_on : View → Step → Bool
is_acted_on w step = is_acted_in w.tables w.state step

-- whether a cell acts on a step at the line of a cache, in the step's block, if that is there
abbrev pub acts_there : Tables → Step → ℕ → Option BlockState → Bool
acts_there tables step cache None = false
acts_there tables step cache (Some b) = acts_at_line (decision_of tables step b) cache

-- the same of a step in a state
abbrev pub is_line_acted_in : Tables → State → Step → ℕ → Bool
is_line_acted_in tables s step cache = not s.broken && acts_there tables step cache (slice_get s.blocks (block_of step))

-- the same of a step in a world
abbrev pub is_line_acted_on : View → Step → ℕ → Bool
is_line_acted_on w step cache = is_line_acted_in w.tables w.state step cache

-- a step has left the room of all other blocks as it was, and that of its own block too where no cell acts; of its own block it has
-- kept no line but that of the cache at which a cell acts, and let none go
pub record KeepsAsIs (old : View) (step : Step) (new : View) : Type 0 where
  pub others : (block : ℕ) → block ≢ block_of step → space_at new block ≡ space_at old block
  pub idle : is_acted_on old step ≡ false → new.spaces ≡ old.spaces
  pub lines : (cache : ℕ) → is_line_acted_on old step cache ≡ false → keeps_line new (block_of step) cache ≡ keeps_line old (block_of step) cache

-- a world keeps no block but those that another one keeps
abbrev pub KeepsNoOther : View → View → Type 0
KeepsNoOther old new = (block : ℕ) → space_at old block ≡ None → space_at new block ≡ None

-- of these steps, made in turn, those on which a cell acts are of other blocks
abbrev pub NoneActsAt : Tables → State → ℕ → List Step → Type 0
NoneActsAt tables s block [] = Unit {0}
NoneActsAt tables s block (step ∷ steps) =
    (is_acted_in tables s step ≡ true → block ≢ block_of step) × NoneActsAt tables (next tables s step).state block steps

-- of these steps, made in turn, those on which a cell acts at the line of a cache are of other blocks
abbrev pub NoneActsThere : Tables → State → ℕ → ℕ → List Step → Type 0
NoneActsThere tables s block cache [] = Unit {0}
NoneActsThere tables s block cache (step ∷ steps) =
    (is_line_acted_in tables s step cache ≡ true → block ≢ block_of step) × NoneActsThere tables (next tables s step).state block cache steps

-- steps have left the room of each block as it was at which a cell acts on none of them, and have kept no line and let none go at
-- which a cell acts on none of them
pub record KeepsOthers (old : View) (steps : List Step) (new : View) : Type 0 where
  pub blocks : (block : ℕ) → NoneActsAt old.tables old.state block steps → space_at new block ≡ space_at old block
  pub lines : (block cache : ℕ) → NoneActsThere old.tables old.state block cache steps → keeps_line new block cache ≡ keeps_line old block cache

-- a world keeps no line
abbrev pub KeepsNoLine : View → Type 0
KeepsNoLine w = (block cache : ℕ) → keeps_line w block cache ≡ false

-- a world keeps the lines that another one keeps, and no other
abbrev pub KeepsSameLines : View → View → Type 0
KeepsSameLines old new = (block cache : ℕ) → keeps_line new block cache ≡ keeps_line old block cache
