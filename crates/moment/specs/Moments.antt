-- The moments of a run, and where a choice leads from one.
use Rattle.std.specs.Prelude.{◌≡◌, ℕ, true, List, [], ◌∷◌, replicate}
use Rattle.base.specs.Extent.{Extent}
use Rattle.base.specs.declared.step.Ask.{Ask}
use Rattle.base.specs.declared.step.Ask.TheVariants as ask
use Rattle.base.specs.declared.step.CoreAsk.{CoreAsk}
use Rattle.base.specs.declared.step.Step.{Step}
use Rattle.base.specs.declared.step.Step.TheVariants as step
use Rattle.base.specs.declared.step.Outcome.{Outcome}
use Rattle.base.specs.declared.step.Outcome.TheVariants as outcome
use Rattle.tables.specs.Tables.{Tables}
use Rattle.machine.specs.Machine.{State, Next, opened, next}
use Rattle.machine.specs.Completions.{Access, load, store, Completion, completed_by}
use Rattle.world.specs.Looks.{all_quiet}
use Rattle.scenario.specs.Tree.{Tree}
use Rattle.scenario.specs.Taking.{offers}
use Rattle.cores.specs.Cores.{Core, idle, is_free, issuing, finishing, with_core}
use Rattle.schedule.specs.Choices.{choices_of, chosen_step, rest_after}
use Rattle.schedule.specs.declared.choosing.Choice.{Choice}

-- the state of the world, what the cores have outstanding, and what is left of the scenario
pub record Moment : Type 0 where
  pub state : State
  pub cores : List Core
  pub rest : Tree

-- the moment at which a run of a scenario starts
abbrev pub opened_moment : Extent → List ℕ → Tree → Moment
opened_moment shape opening tree = record { state = opened shape opening; cores = replicate shape.caches idle; rest = tree }

-- what can happen next
abbrev pub choices_at : Tables → Moment → List Choice
choices_at tables m = choices_of tables m.state m.cores m.rest

-- the load or store that a step put to its cache, if a cell acted on it: one at most
abbrev pub put_by : Step → Outcome → List CoreAsk
put_by (step.Ask cache block ask.Replace) what = []
put_by (step.Ask cache block a) outcome.Sent = record { core = cache; block = block; ask = a } ∷ []
put_by (step.Ask cache block a) (outcome.Load at value) = record { core = cache; block = block; ask = a } ∷ []
put_by (step.Ask cache block a) (outcome.Store at value) = record { core = cache; block = block; ask = a } ∷ []
put_by other what = []

-- the cores that issued these are waiting for them
abbrev pub with_issued : List CoreAsk → List Core → List Core
with_issued [] cores = cores
with_issued (a ∷ asks) cores = with_issued asks (with_core cores a.core.0 (issuing a.ask))

-- the cores of the caches that completed these wait no longer
abbrev pub with_finished : List Completion → List Core → List Core
with_finished [] cores = cores
with_finished (c ∷ done) cores = with_finished done (with_core cores c.cache.0 finishing)

-- the cores after a step of this outcome: a load or a store that isn't completed at once is outstanding until its cache completes it
abbrev pub cores_after : Step → Outcome → List Core → List Core
cores_after s what cores = with_finished (completed_by s what) (with_issued (put_by s what) cores)

-- the moment behind a step, with what is then left of the scenario
abbrev pub moment_behind : Moment → Step → Next → Tree → Moment
moment_behind m s made rest = record { state = made.state; cores = cores_after s made.outcome m.cores; rest = rest }

-- the moment that a choice leads to
abbrev pub moment_after : Tables → Moment → Choice → Moment
moment_after tables m choice = moment_behind m (chosen_step choice) (next tables m.state (chosen_step choice)) (rest_after choice m.rest)

-- nothing is offered, no message is on its way, and no core waits
pub record IsAtRest (m : Moment) : Type 0 where
  pub nothing_offered : offers m.rest ≡ []
  pub quiet : all_quiet m.state.blocks ≡ true
  pub free : (core : ℕ) → is_free m.cores core ≡ true

-- what completes with this access and this value: a load, or the store of the value
abbrev pub ask_of : Access → ℕ → Ask
ask_of load value = ask.Load
ask_of store value = ask.Store value

-- the load or the store that a completion answers
abbrev pub answered : Completion → CoreAsk
answered c = record { core = c.cache; block = record { 0 = c.block }; ask = ask_of c.access c.value }
