-- What controllers tell of their tables.
use Rattle.std.specs.Prelude.{◌≡◌, List, Bool, Some, slice_get, slice_index_or, true, false}
use Rattle.base.specs.declared.step.Ask.{Ask}
use Rattle.tables.specs.Tables.{Tables}
use Rattle.cache_table.specs.Table as cache_table
use Rattle.cache_table.specs.declared.state.CacheState.{CacheState}
use Rattle.directory_table.specs.Table as directory_table
use Rattle.directory_table.specs.declared.state.DirectoryState.{DirectoryState}
use Rattle.blocks.specs.declared.block.asking.HeldAsks.{HeldAsks}
use Rattle.blocks.specs.Asking.{holds, stalls_in}
use Rattle.blocks.specs.Passing.{ForwardsPass, IsClear, ResponsesPass}

-- no ask
abbrev pub no_ask : HeldAsks
no_ask = record { load = false; store = false; replace = false }

-- the asks that are held by the state of a line are these
abbrev pub AreHeldByState : Tables → List HeldAsks → Type 0
AreHeldByState tables held_asks = (state : CacheState) (ask : Ask) →
    holds (slice_index_or held_asks (cache_table.state_number state) no_ask) ask ≡ stalls_in tables.cache ask state

-- for each state of a line which asks are held, and that nothing on its link is; for each of a home that nothing is; and that no response is
pub record AreTold (tables : Tables) (held_asks : List HeldAsks) (passing_lines clear_homes : List Bool) (all_pass : Bool) : Type 0 where
  pub held : AreHeldByState tables held_asks
  pub forwards : (state : CacheState) → slice_index_or passing_lines (cache_table.state_number state) false ≡ true → ForwardsPass tables.cache state
  pub clear : (state : DirectoryState) → slice_get clear_homes (directory_table.state_number state) ≡ Some true → IsClear tables.directory state
  pub pass : all_pass ≡ true → ResponsesPass tables
