-- When a step can be noted in the cores.
use Rattle.std.specs.Prelude.{◌≡◌, true, false, All, List, [], ◌∷◌, Option, Some, None}
use Rattle.base.specs.declared.ids.CacheId.{CacheId}
use Rattle.base.specs.declared.step.CoreAsk.{CoreAsk}
use Rattle.base.specs.declared.step.Step.{Step}
use Rattle.base.specs.declared.step.Outcome.{Outcome}
use Rattle.machine.specs.Completions.{Completion, completed_by}
use Rattle.cores.specs.Cores.{Core, is_free}
use Rattle.moment.specs.Moments.{put_by, with_issued}

-- these cores are free
abbrev pub AreFree : List CoreAsk → List Core → Type 0
AreFree asks cores = All (λ a. is_free cores a.core.0 ≡ true) asks

-- the cores of these caches wait for something
abbrev pub AreBusy : List Completion → List Core → Type 0
AreBusy done cores = All (λ c. is_free cores c.cache.0 ≡ false) done

-- a step can be noted: the core of an ask that was put is free, and the core of a completion then isn't
pub record CanBeNoted (step : Step) (outcome : Outcome) (cores : List Core) : Type 0 where
  pub asks : AreFree (put_by step outcome) cores
  pub completes : AreBusy (completed_by step outcome) (with_issued (put_by step outcome) cores)

-- the core that there is, if there is one
abbrev pub cores_in : Option CacheId → List CacheId
cores_in None = []
cores_in (Some core) = core ∷ []
