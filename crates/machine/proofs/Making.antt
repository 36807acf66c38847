-- What a step is told as is what it makes of the state.
use Rattle.std.proofs.Common.{◌≡◌, ◌∙◌, Bool, true, false, if◌then◌else◌, Option, Some, None, ap, refl, slice_get, sym}
use Rattle.base.specs.Steps.{block_of}
use Rattle.base.specs.declared.step.Outcome.TheVariants.{Broken}
use Rattle.base.specs.declared.step.Step.{Step}
use Rattle.tables.specs.Tables.{Tables}
use Rattle.machine.specs.Block.{BlockState}
use Rattle.machine.specs.declared.made.Made.{Made}
use Rattle.machine.specs.Made.{IsTold, made_in, made_of, refused}
use Rattle.machine.specs.Machine.{State, next, next_at}

outcome-in : (tables : Tables) (s : State) (step : Step) (found : Option BlockState) → (next_at tables s step found).outcome ≡
    (made_in tables step found).outcome
outcome-in tables s step None = refl
outcome-in tables s step (Some b) = refl

outcome-if : (tables : Tables) (s : State) (step : Step) (found : Option BlockState) (broken : Bool) →
    (if broken then record { state = s; outcome = Broken } else next_at tables s step found).outcome
    ≡ (if broken then refused Broken else made_in tables step found).outcome
outcome-if tables s step found true = refl
outcome-if tables s step found false = outcome-in tables s step found

-- the outcome that is told is that of the step
pub outcome-told : (tables : Tables) (s : State) (step : Step) → (next tables s step).outcome ≡ (made_of tables s step).outcome
outcome-told tables s step = outcome-if tables s step (slice_get s.blocks (block_of step)) s.broken

-- so the next is what was told
pub next-told : (tables : Tables) (before : State) (step : Step) (made : Made) (behind : State) → IsTold tables before step made behind →
    next tables before step ≡ record { state = behind; outcome = made.outcome }
next-told tables before step made behind t =
    let what = outcome-told tables before step ∙ ap (λ (m : Made). m.outcome) (sym t.told) in
    let state = sym t.state in
    λ i. record { state = state i; outcome = what i }
