-- Three rows of numbers, which say of each block how many of each kind it has, and where the k-th of all is.
use Rattle.std.specs.Prelude.{◌≡◌, ℕ, ◌+◌, ◌-◌, ◌<◌, ◌≤◌, List, Option, Some, None, length, map, replicate, slice_get, slice_set}
use Rattle.std.specs.List.{sum}
use Rattle.std.specs.Option.{option_map}
use Rattle.base.specs.declared.step.Step.{Step}
use Rattle.base.specs.declared.step.Step.TheVariants as step
use Rattle.network.specs.Marks.{Marks}
use Rattle.rows.specs.Counts.{Finds}
use Rattle.world.specs.declared.counts.DeliveryKind.{DeliveryKind}
use Rattle.world.specs.declared.counts.DeliveryKind.TheVariants.{Request, Head, Response}
use Rattle.world.specs.declared.counts.Spot.{Spot}
use Rattle.blocks.specs.View.{BlockView}
use Rattle.machine.specs.Block.{BlockState}
use Rattle.tables.specs.Tables.{Tables}
use Rattle.blocks.specs.Marking.{free_requests, free_heads, free_responses}
use Rattle.network.specs.Marks.{unmarked, unmarked_heads}

-- a row for each kind, with a number for each block
pub record Rows : Type 0 where
  pub requests : List ℕ
  pub heads : List ℕ
  pub responses : List ℕ

-- the rows of so many blocks that have none
abbrev pub none_counted : ℕ → Rows
none_counted blocks = record { requests = replicate blocks 0; heads = replicate blocks 0; responses = replicate blocks 0 }

-- the rows with other numbers of a block
abbrev pub with_counts : ℕ → ℕ → ℕ → ℕ → Rows → Rows
with_counts block requests heads responses rows = record {
  requests = slice_set rows.requests block requests;
  heads = slice_set rows.heads block heads;
  responses = slice_set rows.responses block responses;
}

-- the rows are of the same blocks, and of no more than a world may have
pub record AreLevel (rows : Rows) : Type 0 where
  pub heads : length rows.heads ≡ length rows.requests
  pub responses : length rows.responses ≡ length rows.requests
  pub few : length rows.requests ≤ 65536

-- how many there are in all
abbrev pub all_in : Rows → ℕ
all_in rows = sum rows.requests + sum rows.heads + sum rows.responses

-- the row of a kind
abbrev pub row_of_kind : Rows → DeliveryKind → List ℕ
row_of_kind rows Request = rows.requests
row_of_kind rows Head = rows.heads
row_of_kind rows Response = rows.responses

-- how many of all come before the first of a kind
abbrev pub count_before : Rows → DeliveryKind → ℕ
count_before rows Request = 0
count_before rows Head = sum rows.requests
count_before rows Response = sum rows.requests + sum rows.heads

-- the k-th of all, counted from 0, is one of a row, behind so many of other rows: it falls in a block's number, and a rest is left there
pub record FallsInRow (numbers : List ℕ) (before k block rest : ℕ) : Type 0 where
  pub behind : before ≤ k
  pub within : k < before + sum numbers
  pub found : Finds numbers (k - before) block rest

-- the k-th of all is at a spot
abbrev pub FallsAt : Rows → ℕ → Spot → Type 0
FallsAt rows k spot = FallsInRow (row_of_kind rows spot.kind) (count_before rows spot.kind) k spot.block spot.rest

-- the step that takes, of what a block with these marks has of a kind without a mark, the one that so many stand before
abbrev pub step_of_kind : Marks → DeliveryKind → ℕ → ℕ → Option Step
step_of_kind marks Request block rest = option_map (λ i. step.Request (record { 0 = block }) i) (slice_get (unmarked 0 marks.requests) rest)
step_of_kind marks Head block rest =
    option_map (λ cache. step.Forward (record { 0 = block }) (record { 0 = cache })) (slice_get (unmarked_heads 0 marks.links) rest)
step_of_kind marks Response block rest = option_map (λ i. step.Response (record { 0 = block }) i) (slice_get (unmarked 0 marks.responses) rest)

-- the step at a spot, of a block with these marks
abbrev pub step_at : Marks → Spot → Option Step
step_at marks spot = step_of_kind marks spot.kind spot.block spot.rest

-- the step at a spot, if its block is kept
abbrev pub step_in : Spot → Option BlockView → Option Step
step_in spot None = None
step_in spot (Some k) = step_at k.marks spot

-- three rows have of each block how many requests, heads and responses aren't marked
pub record AreCounted (tables : Tables) (blocks : List BlockState) (requests heads responses : List ℕ) : Type 0 where
  pub of_requests : requests ≡ map (free_requests tables) blocks
  pub of_heads : heads ≡ map (free_heads tables) blocks
  pub of_responses : responses ≡ map (free_responses tables) blocks
