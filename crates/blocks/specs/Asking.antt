-- Which asks of a core would be held, each kind by itself.
use Rattle.std.specs.Prelude.{Bool, false, if◌then◌else◌}
use Rattle.base.specs.declared.step.Ask.{Ask}
use Rattle.base.specs.declared.step.Ask.TheVariants.{Load, Store, Replace}
use Rattle.cache_table.specs.Table as cache_table
use Rattle.cache_table.specs.declared.state.CacheState.{CacheState}
use Rattle.control.specs.LineEvents.{ask_event}
use Rattle.machine.specs.Transition.{is_idle}
use Rattle.blocks.specs.declared.block.asking.HeldAsks.{HeldAsks}
use Rattle.blocks.specs.Marking.{is_stall}

-- an ask is one of them
abbrev pub holds : HeldAsks → Ask → Bool
holds held Load = held.load
holds held (Store value) = held.store
holds held Replace = held.replace

-- whether an ask is held at a line in a state: its cell is a stall, and the ask isn't idle
abbrev pub stalls_in : cache_table.Cells → Ask → CacheState → Bool
stalls_in cells a state = if is_idle a state then false else is_stall (cache_table.cell cells state (ask_event a))
