-- Under restrained tables every run is safe.
use Rattle.std.proofs.Common.{ℕ, inl, refl, ◌≤◌, List, [], subst, arith}
use Rattle.base.specs.Extent.{Extent, IsWithinLimits}
use Rattle.base.specs.declared.step.Step.{Step}
use Rattle.machine.specs.Machine.{opened, after, outcomes_of}
use Rattle.base.specs.declared.controller.protocol.Protocol.{Protocol}
use Rattle.tables.specs.Tables.{Tables, baseline_of}
use Rattle.machine.specs.Block.{BlockState}
use Rattle.machine.specs.Transition.{transition}
use Rattle.machine.specs.Restraint.{AreRestrained}
use Rattle.machine.specs.Completions.{completions}
use Rattle.machine.specs.Coherence.{Safe, Met}
use Rattle.machine.proofs.Runs.{Guards, guarded, guarded-single, guarded-unmet, guarded-unmet-under}
use Rattle.machine.proofs.Completing.{Follows, followed-explained}
use Rattle.machine.proofs.Following.{followed-from, latests-opened}
use Rattle.machine.proofs.LineValues.{FitsLatest}
use Rattle.machine.proofs.Admitting.{Holding, restrained-guards, restrained-fits}

pub few-enough : (shape : Extent) → IsWithinLimits shape → shape.caches ≤ 4294967296
few-enough shape within = omega (arith, within.few_caches)

-- where a guarded invariant makes each transition fit, all runs are safe
guarded-safe : (P : BlockState → Type 0) (tables : Tables) (shape : Extent) (opening : List ℕ) (steps : List Step) → Guards P tables shape.caches →
    ((s : Step) (b : BlockState) → P b → FitsLatest (transition tables s b).outcome b.latest
    (transition tables s b).block.latest) → Safe shape tables opening steps
guarded-safe P tables shape opening steps g fits = record {
  single = λ front rest e. guarded-single P tables shape g opening front;
  unmet = λ front rest s e. guarded-unmet P tables shape g opening front s;
  explained = followed-explained opening (completions steps (outcomes_of tables (opened shape opening) steps))
      (subst (λ (l : List ℕ). Follows l (completions steps (outcomes_of tables (opened shape opening) steps))) (latests-opened shape opening)
      (followed-from P tables g.kept fits steps (opened shape opening) (guarded P tables shape g opening [])));
}

-- under restrained tables all runs are safe
pub restrained-safe : (tables : Tables) (shape : Extent) (opening : List ℕ) (steps : List Step) → AreRestrained tables → IsWithinLimits shape →
    Safe shape tables opening steps
restrained-safe tables shape opening steps r within =
    guarded-safe (Holding tables.protocol shape.caches) tables shape opening steps (restrained-guards tables shape.caches r (few-enough shape within))
    (restrained-fits tables shape.caches r)

-- the own tables are restrained
pub own-restrained : (p : Protocol) → AreRestrained (baseline_of p)
own-restrained p = record { cache = λ s e. inl refl; directory = λ s e. inl refl }

-- and no step of a run under restrained tables comes to a cell that the own tables leave blank
pub restrained-never-met : (tables : Tables) (shape : Extent) (opening : List ℕ) (steps : List Step)
    (step : Step) → AreRestrained tables → IsWithinLimits shape →
    ¬ Met (baseline_of tables.protocol) (after tables (opened shape opening) steps).state step
restrained-never-met tables shape opening steps step r within =
    guarded-unmet-under (Holding tables.protocol shape.caches) tables (baseline_of tables.protocol) shape
    (restrained-guards tables shape.caches r (few-enough shape within))
    (restrained-guards (baseline_of tables.protocol) shape.caches (own-restrained tables.protocol) (few-enough shape within)) opening steps step

-- so under them all runs are safe
pub safe : (p : Protocol) (shape : Extent) (opening : List ℕ) (steps : List Step) → IsWithinLimits shape → Safe shape (baseline_of p) opening steps
safe p shape opening steps within = restrained-safe (baseline_of p) shape opening steps (own-restrained p) within
