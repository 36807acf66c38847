-- What is kept beside asks.
use Rattle.std.specs.Prelude.{◌≡◌, ◌<◌, ◌^◌, ℕ, Bool, true, false, List, Option, Some, IfSome, length, slice_get}
use Rattle.base.specs.declared.ids.CacheId.{CacheId}
use Rattle.base.specs.declared.step.CoreAsk.{CoreAsk}
use Rattle.tables.specs.Tables.{Tables}
use Rattle.machine.specs.Machine.{State}
use Rattle.schedule.specs.Listed.{IsMarked, Listed}

-- all these asks are this core's
pub record AreOf (core : CacheId) (asks : List CoreAsk) : Type 0 where
  pub each : (at : ℕ) (ask : CoreAsk) → slice_get asks at ≡ Some ask → ask.core ≡ core

-- there is a mark for each ask, and a number for each; where a core is kept, all asks are its
pub record AreKept (asks : List CoreAsk) (unheld : List Bool) (core : Option CacheId) : Type 0 where
  pub long : length unheld ≡ length asks
  pub short : length asks < 2 ^ 32
  pub owned : IfSome core (λ of. AreOf of asks)

-- where it is said that they were marked the marks are right, else nothing has changed
abbrev pub IsMarkedIf : Tables → State → Bool → Listed → Listed → Type 0
IsMarkedIf tables state true old new = IsMarked tables state new
IsMarkedIf tables state false old new = new ≡ old
