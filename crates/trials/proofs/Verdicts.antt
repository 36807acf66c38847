-- What a trial's verdict says of its steps.
use Rattle.std.proofs.Common.{◌≡◌, ◌≢◌, ◌+◌, ℕ, List, take, refl, sym, ap, ◌∙◌, subst, arith}
use Rattle.std.proofs.lemmas.List.{take_all}
use Rattle.base.specs.Extent.{Extent}
use Rattle.base.specs.declared.step.Step.{Step}
use Rattle.tables.specs.Tables.{Tables}
use Rattle.machine.specs.Machine.{opened, state_after, outcomes_of}
use Rattle.machine.specs.Coherence.{Safe}
use Rattle.monitor.specs.declared.violation.Violation.{Violation}
use Rattle.record.specs.View.{RecordingView, IsLegal, steps_of, told_by}
use Rattle.monitor.specs.Violations.{IsFirstViolation}
use Rattle.scenario.specs.Tree.{Tree}
use Rattle.schedule.specs.Words.{word}
use Rattle.trials.specs.Terms.{Terms}
use Rattle.moment.specs.Moments.{Moment}
use Rattle.trials.specs.Moments.{first_moment}
use Rattle.trials.specs.Trial.{IsTrial, IsVerdict, IsSound, HasBroken, AreClean}
use Rattle.trials.specs.declared.verdict.Verdict.{Verdict}
use Rattle.trials.specs.declared.verdict.Verdict.TheVariants.{Quiet, Cut, Stuck, Broke}
use Rattle.trials.proofs.Walks.{Walks, path-walks, walk-outcomes, walk-state}

-- a trial's entries lead from the first moment to its last
pub trial-walks : (terms : Terms) (tree : Tree) (number : ℕ) (recording : RecordingView) (verdict : Verdict)
    (trial : IsTrial terms tree number recording verdict) →
    Walks terms.tables (λ k. word terms.seed number k) (first_moment terms tree) recording.entries trial.last
trial-walks terms tree number recording verdict trial = path-walks terms tree number trial.moments recording.entries trial.last trial.path trial.at_last

pub trial-told : (terms : Terms) (tree : Tree) (number : ℕ) (recording : RecordingView) (verdict : Verdict) → IsTrial terms tree number recording verdict →
    told_by recording ≡ outcomes_of terms.tables (opened terms.shape terms.opening) (steps_of recording)
trial-told terms tree number recording verdict trial =
    walk-outcomes terms.tables (λ k. word terms.seed number k) (first_moment terms tree) trial.last recording.entries
    (trial-walks terms tree number recording verdict trial)

pub trial-state : (terms : Terms) (tree : Tree) (number : ℕ) (recording : RecordingView) (verdict : Verdict)
    (trial : IsTrial terms tree number recording verdict) →
    trial.last.state ≡ state_after terms.tables (opened terms.shape terms.opening) (steps_of recording)
trial-state terms tree number recording verdict trial =
    walk-state terms.tables (λ k. word terms.seed number k) (first_moment terms tree) trial.last recording.entries
    (trial-walks terms tree number recording verdict trial)

pub trial-legal : (terms : Terms) (tree : Tree) (number : ℕ) (recording : RecordingView) (verdict : Verdict) → IsTrial terms tree number recording verdict →
    IsLegal recording
trial-legal terms tree number recording verdict trial =
    trial-told terms tree number recording verdict trial
    ∙ ap (λ (t : Tables). outcomes_of t (opened terms.shape terms.opening) (steps_of recording)) (sym trial.tables)
    ∙ ap (λ (x : Extent). outcomes_of recording.tables (opened x terms.opening) (steps_of recording)) (sym trial.shape)
    ∙ ap (λ o. outcomes_of recording.tables (opened recording.shape o) (steps_of recording)) (sym trial.opening)

-- a trial that broke isn't safe
pub broke-unsafe : (terms : Terms) (steps : List Step) (last : Moment) (violation : Violation)
    → ((number : ℕ) → IsFirstViolation terms.shape terms.tables terms.opening steps number violation → ¬ Safe terms.shape terms.tables terms.opening
    (take (number + 1) steps))
    → IsVerdict terms steps last (Broke violation) → ¬ Safe terms.shape terms.tables terms.opening steps
broke-unsafe terms steps last violation behind h safe =
    behind h.0 h.2
    (subst (λ (l : List Step). Safe terms.shape terms.tables terms.opening l) (sym (take_all (h.0 + 1) steps (let e = h.1 in omega (arith, e)))) safe)

-- which violation it is
pub broken-by : (verdict : Verdict) → HasBroken verdict → (violation : Violation) × (verdict ≡ Broke violation)
broken-by (Broke violation) h = (violation, refl)
broken-by Quiet h = absurd h
broken-by Stuck h = absurd h
broken-by Cut h = absurd h

-- one that isn't safe broke
pub unsafe-broke : (terms : Terms) (steps : List Step) (last : Moment) (verdict : Verdict) →
    (AreClean terms steps → Safe terms.shape terms.tables terms.opening steps)
    → IsVerdict terms steps last verdict → ¬ Safe terms.shape terms.tables terms.opening steps → HasBroken verdict
unsafe-broke terms steps last (Broke violation) safe h not = tt
unsafe-broke terms steps last Quiet safe h not = absurd (not (safe h.0))
unsafe-broke terms steps last Stuck safe h not = absurd (not (safe h.0))
unsafe-broke terms steps last Cut safe h not = absurd (not (safe h.0))

-- a verdict that is neither a violation nor stuck
pub sound : (verdict : Verdict) → ¬ HasBroken verdict → verdict ≢ Stuck → IsSound verdict
sound (Broke violation) unbroken unstuck = absurd (unbroken tt)
sound Stuck unbroken unstuck = absurd (unstuck refl)
sound Quiet unbroken unstuck = tt
sound Cut unbroken unstuck = tt
