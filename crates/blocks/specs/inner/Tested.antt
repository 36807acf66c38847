-- The marks that a test sets, by the parts of a block that they depend on.
use Rattle.std.specs.Prelude.{List, Bool, Option, map}
use Rattle.network.specs.declared.message.Request.{Request}
use Rattle.network.specs.Traffic.{Traffic}
use Rattle.directory_table.specs.Table as directory_table
use Rattle.control.specs.declared.line.Line.{Line}
use Rattle.control.specs.declared.home.Home.{Home}
use Rattle.control.specs.declared.home.HomeInput.TheVariants as home_input
use Rattle.machine.specs.Block.{BlockState}
use Rattle.blocks.specs.Marking.{home_stalls}
use Rattle.blocks.specs.inner.Lined.{lines_of}

-- a block with this home and these lines, of which those are given that are kept
abbrev pub block_with : List (Option Line) → Home → Traffic → BlockState
block_with items home w = record { lines = lines_of items; home = home; traffic = w; latest = 0 }

-- the marks of requests
abbrev pub requests_stall : directory_table.Cells → Home → List Request → List Bool
requests_stall cells home rs = map (λ r. home_stalls cells home (home_input.Request r)) rs
