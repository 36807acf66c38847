-- What the parts of a search for a violation answer.
use Rattle.std.specs.Prelude.{◌≡◌, ◌≤◌, ◌<◌, ◌⊎◌, ℕ, Bool, Option, Some, None}
use Rattle.std.specs.Option.{option_map_or}
use Rattle.base.specs.declared.step.Outcome.{Outcome}
use Rattle.machine.specs.declared.made.Acted.{Acted}
use Rattle.machine.specs.declared.made.Made.{Made}
use Rattle.machine.specs.Machine.{State, is_blank}
use Rattle.world.specs.Looks.{readers_of, writer_of}
use Rattle.monitor.specs.declared.violation.Violation.{Violation}
use Rattle.monitor.specs.Scenes.{IsLookedAt, Scene, Shows, rank}

-- a fact holds for no number from this one on
abbrev pub HoldsForNoneFrom : (ℕ → Type 0) → ℕ → Type 0
HoldsForNoneFrom P from = (n : ℕ) → from ≤ n → ¬ P n

-- a number is the least from another one on for which a fact holds
pub record IsLeastFrom (P : ℕ → Type 0) (from n : ℕ) : Type 0 where
  pub not_below : from ≤ n
  pub holds : P n
  pub least : (m : ℕ) → from ≤ m → m < n → ¬ P m

-- a scene shows no violation of the kinds from one rank to below another
abbrev pub ShowsNone : Scene → ℕ → ℕ → Type 0
ShowsNone scene low high = (violation : Violation) → low ≤ rank violation → rank violation < high → ¬ Shows scene violation

-- a violation is the first of these kinds that a scene shows
pub record IsFirst (scene : Scene) (low high : ℕ) (violation : Violation) : Type 0 where
  pub shown : Shows scene violation
  pub from : low ≤ rank violation
  pub below : rank violation < high
  pub first : ShowsNone scene low (rank violation)

-- an answer is the first violation of these kinds, or that there is none of them
abbrev pub AnswersWithin : Scene → ℕ → ℕ → Option Violation → Type 0
AnswersWithin scene low high None = ShowsNone scene low high
AnswersWithin scene low high (Some violation) = IsFirst scene low high violation

-- whether a step met a blank cell, or its block is crowded after it
abbrev pub is_suspect : Made → Bool
is_suspect made = option_map_or (λ (acted : Acted). acted.crowded) made.acted (is_blank made.outcome)

-- one cache at most may read the block of a number, or none may write it; where there is none it holds
abbrev pub IsUncrowded : State → ℕ → Type 0
IsUncrowded s block = (readers_of s block ≤ 1) ⊎ (None ≡ writer_of s block)

-- so it is if a step of this outcome is looked at
abbrev pub IsUncrowdedIf : Outcome → State → ℕ → Type 0
IsUncrowdedIf what s block = IsLookedAt what → IsUncrowded s block
