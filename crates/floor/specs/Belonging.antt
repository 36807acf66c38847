-- To whom a controller belongs, and to whom a step belongs.
use Rattle.std.specs.Prelude.{◌+◌, ◌%◌, ◌==◌, ℕ, List, Bool, true, filter}
use Rattle.std.specs.Option.{option_map_or}
use Rattle.base.specs.Steps.{block_of}
use Rattle.base.specs.declared.ids.Place.{Place}
use Rattle.base.specs.declared.ids.Place.TheVariants.{Dir, Cache}
use Rattle.base.specs.declared.step.Step.{Step}
use Rattle.machine.specs.Machine.{State}
use Rattle.tables.specs.Tables.{Tables}
use Rattle.world.specs.Looks.{place_at}
use Rattle.world.specs.Enabled.{enabled_steps}

-- the number of a controller of a block, where there are so many caches: the caches come first, then the homes
abbrev pub controller : ℕ → ℕ → Place → ℕ
controller caches block (Cache cache) = cache.0
controller caches block Dir = caches + block

-- whether a controller belongs to a seat: they are dealt to the seats in turn
abbrev pub is_of : ℕ → ℕ → ℕ → Bool
is_of seats seat number = (number % seats) == seat

-- whether a step belongs to a seat: its controller does, or its controller isn't there
abbrev pub belongs : ℕ → ℕ → State → ℕ → Step → Bool
belongs seats caches state seat step = option_map_or (λ at. is_of seats seat (controller caches (block_of step) at)) (place_at state step) true

-- the deliveries that are enabled and belong to a seat, in order
abbrev pub ready_for : ℕ → ℕ → Tables → State → ℕ → List Step
ready_for seats caches tables state seat = filter (λ step. belongs seats caches state seat step) (enabled_steps tables state)
