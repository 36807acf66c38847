-- How many of each block's deliveries are ready for each seat.
use Rattle.std.specs.Prelude.{◌≡◌, ◌+◌, ◌%◌, ℕ, List, [], ◌∷◌, Option, Some, Bool, true, count_by, filter, length, slice_get, ◌<◌, All, slice_index, slice_set}
use Rattle.std.specs.Option.{option_map, option_map_or}
use Rattle.base.specs.Steps.{block_of}
use Rattle.base.specs.declared.ids.BlockId.{BlockId}
use Rattle.base.specs.declared.step.Step.{Step}
use Rattle.blocks.specs.Looks.{place_in}
use Rattle.tables.specs.Tables.{Tables}
use Rattle.machine.specs.Block.{BlockState}
use Rattle.machine.specs.Machine.{State}
use Rattle.world.specs.declared.counts.DeliveryKind.{DeliveryKind}
use Rattle.world.specs.declared.counts.DeliveryKind.TheVariants.{Request, Head, Response}
use Rattle.world.specs.Enabled.{enabled_at_block, kind_enabled}
use Rattle.world.specs.Looks.{place_at}
use Rattle.world.specs.View.{View}
use Rattle.world.specs.inner.Counts.{Rows, none_counted, row_of_kind, with_counts}
use Rattle.floor.specs.Belonging.{belongs, controller, is_of, ready_for}

-- the seat that a step's controller belongs to, if the controller is there
abbrev pub owner_of : ℕ → ℕ → State → Step → Option ℕ
owner_of seats caches state step = option_map (λ at. controller caches (block_of step) at % seats) (place_at state step)

-- whether a step at a block in this state belongs to a seat
abbrev pub belongs_in : ℕ → ℕ → ℕ → BlockState → Step → Bool
belongs_in seats caches seat b step = option_map_or (λ at. is_of seats seat (controller caches (block_of step) at)) (place_in step b) true

-- the deliveries of a kind of a block that are ready for a seat
abbrev pub ready_at : ℕ → ℕ → Tables → ℕ → DeliveryKind → BlockId → BlockState → List Step
ready_at seats caches tables seat kind block b = filter (belongs_in seats caches seat b) (kind_enabled tables kind block b)

-- how much there is of each block, of those from a number on
abbrev pub lengths_from : (BlockId → BlockState → List Step) → ℕ → List BlockState → List ℕ
lengths_from f i [] = []
lengths_from f i (b ∷ bs) = length (f (record { 0 = i }) b) ∷ lengths_from f (i + 1) bs

-- the deliveries that are ready for a seat in a world
abbrev pub ready_in : ℕ → View → ℕ → List Step
ready_in seats world seat = ready_for seats world.shape.caches world.tables world.state seat

-- those of a kind of one of its blocks
abbrev pub ready_of_block : ℕ → View → ℕ → DeliveryKind → BlockId → List Step
ready_of_block seats world seat kind block =
    filter (λ step. belongs seats world.shape.caches world.state seat step) (enabled_at_block world.tables kind world.state block)

-- rows have of each block how many of its deliveries are ready for a seat
abbrev pub AreCountedFor : ℕ → ℕ → Tables → List BlockState → ℕ → Rows → Type 0
AreCountedFor seats caches tables bs seat rows = (kind : DeliveryKind) → row_of_kind rows kind ≡ lengths_from (ready_at seats caches tables seat kind) 0 bs

-- there are such rows for each seat
pub record AreShared (seats : ℕ) (world : View) (shares : List Rows) : Type 0 where
  pub count : length shares ≡ seats
  pub each : (seat : ℕ) (rows : Rows) → slice_get shares seat ≡ Some rows →
      AreCountedFor seats world.shape.caches world.tables world.state.blocks seat rows

-- nothing is counted in any of these rows, which are of so many blocks
abbrev pub AreOfNone : ℕ → List Rows → Type 0
AreOfNone blocks shares = All (λ rows. rows ≡ none_counted blocks) shares

-- each of these rows is of so many blocks
abbrev pub AreOfBlocks : ℕ → List Rows → Type 0
AreOfBlocks blocks shares = (seat : ℕ) (rows : Rows) → slice_get shares seat ≡ Some rows → length rows.requests ≡ blocks

-- how many deliveries of a kind of one of a world's blocks belong to a seat
abbrev pub share : ℕ → View → ℕ → DeliveryKind → BlockId → ℕ
share seats world seat kind block =
    count_by (λ step. belongs seats world.shape.caches world.state seat step) (enabled_at_block world.tables kind world.state block)

-- a tally has so many of each seat: its own, and those that belong to all
abbrev pub AreTallied : ℕ → View → DeliveryKind → BlockId → List ℕ → ℕ → Type 0
AreTallied seats world kind block own all = (seat : ℕ) → seat < seats → slice_index own seat + all ≡ share seats world seat kind block

-- one of these numbers is one more
abbrev pub HasOneMore : List ℕ → List ℕ → ℕ → Type 0
HasOneMore old new seat = new ≡ slice_set old seat (slice_index old seat + 1)

-- the rows of a seat once one of the blocks is counted again
abbrev pub recounted : ℕ → View → ℕ → BlockId → Rows → Rows
recounted seats world seat block rows =
    with_counts block.0 (share seats world seat Request block) (share seats world seat Head block) (share seats world seat Response block) rows

-- one of the blocks is counted again for each seat
pub record AreRecounted (seats : ℕ) (world : View) (block : BlockId) (old new : List Rows) : Type 0 where
  pub count : length new ≡ length old
  pub each : (seat : ℕ) (rows : Rows) → slice_get old seat ≡ Some rows → slice_get new seat ≡ Some (recounted seats world seat block rows)

-- a word draws this one of a list
abbrev pub IsDrawn : List Step → ℕ → Step → Type 0
IsDrawn steps word step = slice_get steps (word % length steps) ≡ Some step
