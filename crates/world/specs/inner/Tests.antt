-- What a world keeps of the tests of its blocks' messages.
use Rattle.std.specs.Prelude.{◌≡◌, ℕ, Option, Some, None}
use Rattle.tables.specs.Tables.{Tables}
use Rattle.blocks.specs.View.{BlockView}
use Rattle.blocks.specs.Marking.{marks_of}
use Rattle.blocks.specs.Tests.{IsFound}
use Rattle.blocks.specs.declared.block.testing.Tested.{Tested}
use Rattle.machine.specs.Block.{BlockState}
use Rattle.world.specs.inner.Counts.{Rows, with_counts}

-- a step's test found what its block has on the wires, or no cell acted
abbrev pub IsTested : Tables → BlockState → BlockState → Option Tested → Type 0
IsTested tables old new None = new ≡ old
IsTested tables old new (Some t) = IsFound tables new t

-- how many messages count as tested
abbrev pub tested_in : Option Tested → ℕ
tested_in None = 0
tested_in (Some t) = t.messages

-- the rows of counts after the test of a block
abbrev pub counted : Option Tested → ℕ → Rows → Rows
counted None number rows = rows
counted (Some t) number rows = with_counts number t.requests t.heads t.responses rows

-- the marks of a block are true, if it is kept
abbrev pub IsMarked : Tables → Option BlockView → Type 0
IsMarked tables None = Unit {0}
IsMarked tables (Some k) = k.marks ≡ marks_of tables k.state
