-- What there is to see after a step, and what is wrong in it.
use Rattle.std.specs.Prelude.{◌≡◌, ◌≢◌, ◌<◌, ℕ, Option, Some, None}
use Rattle.base.specs.Steps.{block_of}
use Rattle.base.specs.declared.ids.Place.{Place}
use Rattle.base.specs.declared.step.Step.{Step}
use Rattle.base.specs.declared.step.Outcome.{Outcome}
use Rattle.base.specs.declared.step.Outcome.TheVariants as outcome
use Rattle.machine.specs.Machine.{State}
use Rattle.machine.specs.Coherence.{Reads, Writes}
use Rattle.world.specs.Looks.{place_at}
use Rattle.monitor.specs.declared.violation.Violation.{Violation}
use Rattle.monitor.specs.declared.violation.Violation.TheVariants.{Blank, SecondWriter, WriterBesideReader, StaleLoad}

-- a step and its outcome, the state after it, and the value that a load of its block ought to have returned, if the block is known
pub record Scene : Type 0 where
  pub step : Step
  pub outcome : Outcome
  pub state : State
  pub due : Option ℕ

-- what there is to see in a state after this step
abbrev pub scene_in : State → Step → Outcome → Option ℕ → Scene
scene_in state step outcome due = record { step = step; outcome = outcome; state = state; due = due }

-- a number is the least of those for which a fact holds
pub record IsLeast (P : ℕ → Type 0) (n : ℕ) : Type 0 where
  pub holds : P n
  pub least : (m : ℕ) → m < n → ¬ P m

-- the outcomes of steps that may be wrong; what is held, absent, idle or made in a broken world isn't looked at
abbrev pub IsLookedAt : Outcome → Type 0
IsLookedAt outcome.Held = ⊥
IsLookedAt outcome.Absent = ⊥
IsLookedAt outcome.Idle = ⊥
IsLookedAt outcome.Broken = ⊥
IsLookedAt other = Unit {0}

-- an outcome is a load of this value
abbrev pub IsLoadOf : ℕ → Outcome → Type 0
IsLoadOf value (outcome.Load cache loaded) = value ≡ loaded
IsLoadOf value other = ⊥

-- the step met a blank cell, and went to this controller
pub record MetBlank (scene : Scene) (at : Place) : Type 0 where
  pub was_blank : scene.outcome ≡ outcome.Blank
  pub went_to : place_at scene.state scene.step ≡ Some at

-- these are the two least writers of the step's block
pub record HasTwoWriters (scene : Scene) (first second : ℕ) : Type 0 where
  pub looked_at : IsLookedAt scene.outcome
  pub least : IsLeast (λ c. Writes scene.state c (block_of scene.step)) first
  pub next : IsLeast (λ c. (first < c) × Writes scene.state c (block_of scene.step)) second

-- these are the least writer of the step's block, and the least reader that is another cache
pub record HasReaderBeside (scene : Scene) (writer reader : ℕ) : Type 0 where
  pub looked_at : IsLookedAt scene.outcome
  pub writes : IsLeast (λ c. Writes scene.state c (block_of scene.step)) writer
  pub beside : IsLeast (λ c. (c ≢ writer) × Reads scene.state c (block_of scene.step)) reader

-- the step completed a load, with another value than was due
pub record IsStale (scene : Scene) (got due : ℕ) : Type 0 where
  pub loaded : IsLoadOf got scene.outcome
  pub was_due : scene.due ≡ Some due
  pub differs : got ≢ due

-- a scene shows this violation, whatever others it may show
abbrev pub Shows : Scene → Violation → Type 0
Shows scene (Blank at block) = (block.0 ≡ block_of scene.step) × MetBlank scene at
Shows scene (SecondWriter block first second) = (block.0 ≡ block_of scene.step) × HasTwoWriters scene first.0 second.0
Shows scene (WriterBesideReader block writer reader) = (block.0 ≡ block_of scene.step) × HasReaderBeside scene writer.0 reader.0
Shows scene (StaleLoad block got due) = (block.0 ≡ block_of scene.step) × IsStale scene got due

-- the place of a violation's kind in the order in which they count
abbrev pub rank : Violation → ℕ
rank (Blank at block) = 0
rank (SecondWriter block first second) = 1
rank (WriterBesideReader block writer reader) = 2
rank (StaleLoad block got due) = 3

-- a scene shows this violation, and none of a kind that counts before it
pub record IsViolation (scene : Scene) (violation : Violation) : Type 0 where
  pub shown : Shows scene violation
  pub first : (other : Violation) → rank other < rank violation → ¬ Shows scene other

-- a scene shows no violation
abbrev pub HasNone : Scene → Type 0
HasNone scene = (violation : Violation) → ¬ Shows scene violation

-- an answer is exactly the violation of a scene, or that there is none
abbrev pub Answers : Scene → Option Violation → Type 0
Answers scene None = HasNone scene
Answers scene (Some violation) = IsViolation scene violation
