use Rattle.std.specs.Prelude.{ℕ, ◌+◌, List, [], ◌∷◌, ◌++◌, Option, None, Some, if◌then◌else◌, slice_get}
use Rattle.base.specs.declared.ids.BlockId.{BlockId}
use Rattle.base.specs.declared.step.Step.{Step}
use Rattle.base.specs.declared.step.Step.TheVariants as step
use Rattle.network.specs.declared.message.Request.{Request}
use Rattle.network.specs.declared.message.Forward.{Forward}
use Rattle.network.specs.declared.message.Response.{Response}
use Rattle.tables.specs.Tables.{Tables}
use Rattle.machine.specs.Block.{BlockState}
use Rattle.machine.specs.Machine.{State}
use Rattle.blocks.specs.Looks.{held_in}
use Rattle.world.specs.declared.counts.DeliveryKind.{DeliveryKind}
use Rattle.world.specs.declared.counts.DeliveryKind.TheVariants as kind

-- a step, unless it would be held
abbrev pub unless_held : Tables → Step → BlockState → List Step
unless_held tables s b = if held_in tables s b then [] else (s ∷ [])

-- the requests of a block that wouldn't be held, of those from a place on
abbrev pub requests_from : Tables → BlockId → BlockState → ℕ → List Request → List Step
requests_from tables block b i [] = []
requests_from tables block b i (r ∷ rs) = unless_held tables (step.Request block i) b ++ requests_from tables block b (i + 1) rs

-- the head of a link that wouldn't be held, if the link has a message
abbrev pub head_from : Tables → BlockId → BlockState → ℕ → List Forward → List Step
head_from tables block b cache [] = []
head_from tables block b cache (f ∷ fs) = unless_held tables (step.Forward block (record { 0 = cache })) b

-- the heads of links that wouldn't be held, of those from a cache on
abbrev pub heads_from : Tables → BlockId → BlockState → ℕ → List (List Forward) → List Step
heads_from tables block b cache [] = []
heads_from tables block b cache (l ∷ ls) = head_from tables block b cache l ++ heads_from tables block b (cache + 1) ls

-- the responses of a block that wouldn't be held, of those from a place on
abbrev pub responses_from : Tables → BlockId → BlockState → ℕ → List Response → List Step
responses_from tables block b i [] = []
responses_from tables block b i (r ∷ rs) = unless_held tables (step.Response block i) b ++ responses_from tables block b (i + 1) rs

-- the three kinds of delivery of a block
abbrev pub requests_enabled : Tables → BlockId → BlockState → List Step
requests_enabled tables block b = requests_from tables block b 0 b.traffic.requests

abbrev pub heads_in : Tables → BlockId → BlockState → List Step
heads_in tables block b = heads_from tables block b 0 b.traffic.links

abbrev pub responses_enabled : Tables → BlockId → BlockState → List Step
responses_enabled tables block b = responses_from tables block b 0 b.traffic.responses

-- those of a kind
abbrev pub kind_enabled : Tables → DeliveryKind → BlockId → BlockState → List Step
kind_enabled tables kind.Request block b = requests_enabled tables block b
kind_enabled tables kind.Head block b = heads_in tables block b
kind_enabled tables kind.Response block b = responses_enabled tables block b

-- the same, if the block is there
abbrev pub kind_found : Tables → DeliveryKind → BlockId → Option BlockState → List Step
kind_found tables kind block None = []
kind_found tables kind block (Some b) = kind_enabled tables kind block b

-- those of a kind of one of all blocks, broken or not
abbrev pub enabled_at_block : Tables → DeliveryKind → State → BlockId → List Step
enabled_at_block tables kind s block = kind_found tables kind block (slice_get s.blocks block.0)

-- what there is of each block, of those from a number on
abbrev pub of_each : (BlockId → BlockState → List Step) → ℕ → List BlockState → List Step
of_each f i [] = []
of_each f i (b ∷ bs) = f (record { 0 = i }) b ++ of_each f (i + 1) bs

-- the deliveries that wouldn't be held: requests by block and place, then heads by block and cache, then responses by block and place
abbrev pub all_enabled : Tables → List BlockState → List Step
all_enabled tables bs = of_each (requests_enabled tables) 0 bs ++ of_each (heads_in tables) 0 bs ++ of_each (responses_enabled tables) 0 bs

-- in a broken world there are none
abbrev pub enabled_steps : Tables → State → List Step
enabled_steps tables s = if s.broken then [] else all_enabled tables s.blocks
