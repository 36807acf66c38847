-- Asks that are offered together, each with a mark: whether it wouldn't be held.
use Rattle.std.specs.Prelude.{◌≡◌, Bool, not, List, [], map}
use Rattle.base.specs.declared.step.CoreAsk.{CoreAsk}
use Rattle.tables.specs.Tables.{Tables}
use Rattle.machine.specs.Machine.{State, next}
use Rattle.blocks.specs.Looks.{is_held}
use Rattle.schedule.specs.Choices.{step_of}

-- asks, and their marks
pub record Listed : Type 0 where
  pub asks : List CoreAsk
  pub unheld : List Bool

-- no asks
abbrev pub nothing_listed : Listed
nothing_listed = record { asks = []; unheld = [] }

-- the step of an ask wouldn't be held
abbrev pub is_unheld : Tables → State → CoreAsk → Bool
is_unheld tables state ask = not (is_held (next tables state (step_of ask)).outcome)

-- the marks are right
abbrev pub IsMarked : Tables → State → Listed → Type 0
IsMarked tables state l = l.unheld ≡ map (is_unheld tables state) l.asks
