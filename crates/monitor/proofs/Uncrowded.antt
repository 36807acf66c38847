-- What there is to see where a step's block isn't crowded.
use Rattle.std.proofs.Common.{◌≡◌, ◌≢◌, ◌<◌, ◌≤◌, ℕ, List, None, inl, inr, arith}
use Rattle.base.specs.Steps.{block_of}
use Rattle.base.specs.declared.ids.CacheId.{CacheId}
use Rattle.base.specs.declared.step.Outcome.{Outcome}
use Rattle.base.specs.declared.step.Outcome.TheVariants as outcome
use Rattle.machine.specs.Completions.{noted}
use Rattle.monitor.specs.declared.violation.Violation.{Violation}
use Rattle.monitor.specs.declared.violation.Violation.TheVariants.{Blank, SecondWriter, WriterBesideReader, StaleLoad}
use Rattle.monitor.specs.Scenes.{IsLoadOf, IsLookedAt, Scene, Shows, rank}
use Rattle.monitor.specs.Finding.{IsUncrowdedIf, ShowsNone}
use Rattle.monitor.proofs.Findings.{none-then}
use Rattle.monitor.proofs.Looking.{crowded-none, none-shared, none-writes}

none-blank : (scene : Scene) → scene.outcome ≢ outcome.Blank → ShowsNone scene 0 1
none-blank scene met (Blank at block) low high s = met s.1.was_blank
none-blank scene met (SecondWriter block first second) low high s = absurd (omega (arith, high))
none-blank scene met (WriterBesideReader block writer reader) low high s = absurd (omega (arith, high))
none-blank scene met (StaleLoad block got due) low high s = absurd (omega (arith, high))

-- what is shown of a crowd is looked at
looked : (scene : Scene) (violation : Violation) → 1 ≤ rank violation → rank violation < 3 → Shows scene violation → IsLookedAt scene.outcome
looked scene (Blank at block) low high s = absurd (omega (arith, low))
looked scene (SecondWriter block first second) low high s = s.1.looked_at
looked scene (WriterBesideReader block writer reader) low high s = s.1.looked_at
looked scene (StaleLoad block got due) low high s = absurd (omega (arith, high))

-- where no cell was blank and the block isn't crowded, only a load may be wrong
pub none-uncrowded : (scene : Scene) → scene.outcome ≢ outcome.Blank → IsUncrowdedIf scene.outcome scene.state (block_of scene.step) → ShowsNone scene 0 3
none-uncrowded scene met uncrowded =
    none-then scene 0 1 3 (none-blank scene met)
    (λ violation low high shown. elim (crowded-none scene.state (block_of scene.step) None (uncrowded (looked scene violation low high shown))) [
      | inl few ↦ none-shared scene few violation low high shown
      | inr none ↦ none-writes scene none violation low high shown
    ])

-- where nothing was loaded, no load is wrong
pub none-loaded : (scene : Scene) → ((value : ℕ) → ¬ IsLoadOf value scene.outcome) → ShowsNone scene 3 4
none-loaded scene none (Blank at block) low high s = absurd (omega (arith, low))
none-loaded scene none (SecondWriter block first second) low high s = absurd (omega (arith, low))
none-loaded scene none (WriterBesideReader block writer reader) low high s = absurd (omega (arith, low))
none-loaded scene none (StaleLoad block got due) low high s = none got s.1.loaded

-- what isn't a load is none of any value
pub not-loaded : (what : Outcome) → ((cache : CacheId) (value : ℕ) → ¬ (what ≡ outcome.Load cache value)) → (value : ℕ) → ¬ IsLoadOf value what
not-loaded what not value h = grind (arith)

-- what isn't a store leaves the values
pub not-stored : (values : List ℕ) (block : ℕ) (what : Outcome) → ((cache : CacheId) (value : ℕ) → ¬ (what ≡ outcome.Store cache value)) →
    noted values block what ≡ values
not-stored values block what not = grind (arith)
