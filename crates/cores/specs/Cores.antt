-- What each core has outstanding, and how much it has issued and finished.
use Rattle.std.specs.Prelude.{◌+◌, ◌-◌, ◌^◌, ℕ, Bool, ⊤, min, is_none, if◌then◌else◌, nat_lt, List, length, slice_index_or, slice_set, Option, Some, None}
use Rattle.base.specs.declared.step.Ask.{Ask}
use Rattle.base.specs.declared.step.Ask.TheVariants.{Load, Store, Replace}

-- the ask of a core that hasn't completed yet, and how many asks it has issued and finished
pub record Core : Type 0 where
  pub outstanding : Option Ask
  pub issued : ℕ
  pub finished : ℕ

-- a core that has asked nothing yet
abbrev pub idle : Core
idle = record { outstanding = None; issued = 0; finished = 0 }

-- one more, as far as 64 bits can count
abbrev pub one_more : ℕ → ℕ
one_more n = min (n + 1) (2 ^ 64 - 1)

-- the core once it has issued an ask
abbrev pub issuing : Ask → Core → Core
issuing ask core = record { outstanding = Some ask; issued = one_more core.issued; finished = core.finished }

-- the core once its ask has finished
abbrev pub finishing : Core → Core
finishing core = record { outstanding = None; issued = core.issued; finished = one_more core.finished }

-- one core becomes another, and the others stay; where it isn't there, all stay
abbrev pub with_core : List Core → ℕ → (Core → Core) → List Core
with_core cores number becomes = if nat_lt number (length cores) then slice_set cores number (becomes (slice_index_or cores number idle)) else cores

-- nothing of the core is outstanding, as of any core that isn't there
abbrev pub is_free : List Core → ℕ → Bool
is_free cores number = is_none (slice_index_or cores number idle).outstanding

-- a load or a store, which completes later; a replacement is done at once
abbrev pub Completes : Ask → Type 0
Completes Load = ⊤
Completes (Store value) = ⊤
Completes Replace = ⊥
