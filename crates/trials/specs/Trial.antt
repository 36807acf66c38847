-- How a trial ends, and what a trial and a batch of them are.
use Rattle.std.specs.Prelude.{◌≡◌, ◌≢◌, ◌≤◌, ◌+◌, ℕ, List, [], Some, length, slice_get}
use Rattle.base.specs.declared.step.Step.{Step}
use Rattle.scenario.specs.Tree.{Tree}
use Rattle.record.specs.View.{RecordingView, steps_of}
use Rattle.monitor.specs.Violations.{HasNoViolation, IsFirstViolation}
use Rattle.trials.specs.declared.verdict.Verdict.{Verdict}
use Rattle.trials.specs.declared.verdict.Verdict.TheVariants.{Quiet, Cut, Stuck, Broke}
use Rattle.trials.specs.declared.verdict.TrialResult.{TrialResult}
use Rattle.trials.specs.Terms.{Terms}
use Rattle.moment.specs.Moments.{IsAtRest, Moment, choices_at}
use Rattle.trials.specs.Moments.{IsPath}

-- none of these steps has a violation
abbrev pub AreClean : Terms → List Step → Type 0
AreClean terms steps = HasNoViolation terms.shape terms.tables terms.opening steps

-- the verdict on these steps, where they led to this moment: the last step broke; or there is no choice, at rest or not; or the limit is reached
abbrev pub IsVerdict : Terms → List Step → Moment → Verdict → Type 0
IsVerdict terms steps last (Broke violation) =
    (number : ℕ) × (length steps ≡ number + 1) × IsFirstViolation terms.shape terms.tables terms.opening steps number violation
IsVerdict terms steps last Quiet = AreClean terms steps × (choices_at terms.tables last ≡ []) × IsAtRest last
IsVerdict terms steps last Stuck = AreClean terms steps × (choices_at terms.tables last ≡ []) × ¬ IsAtRest last
IsVerdict terms steps last Cut = AreClean terms steps × (choices_at terms.tables last ≢ []) × (length steps ≡ terms.limit)

-- a recording in which there are no seats, so that nobody owns an entry
pub record IsUnowned (r : RecordingView) : Type 0 where
  pub seats : r.seats ≡ 0
  pub owners : r.owners ≡ []

-- this recording and this verdict are those of the trial of this number: a path of at most as many steps as the limit, and what ends it
pub record IsTrial (terms : Terms) (tree : Tree) (number : ℕ) (recording : RecordingView) (verdict : Verdict) : Type 0 where
  pub shape : recording.shape ≡ terms.shape
  pub tables : recording.tables ≡ terms.tables
  pub opening : recording.opening ≡ terms.opening
  pub unowned : IsUnowned recording
  pub moments : List Moment
  pub last : Moment
  pub path : IsPath terms tree number moments recording.entries
  pub at_last : slice_get moments (length recording.entries) ≡ Some last
  pub few : length recording.entries ≤ terms.limit
  pub ends : IsVerdict terms (steps_of recording) last verdict

-- this is the result of the trial of this number
pub record IsResult (terms : Terms) (tree : Tree) (number : ℕ) (result : TrialResult) : Type 0 where
  pub recording : RecordingView
  pub trial : IsTrial terms tree number recording result.verdict
  pub numbered : result.number ≡ number
  pub steps : result.steps ≡ length recording.entries

-- these are the results of the first n trials, in order
pub record AreResults (terms : Terms) (tree : Tree) (n : ℕ) (results : List TrialResult) : Type 0 where
  pub count : length results ≡ n
  pub each : (number : ℕ) (result : TrialResult) → slice_get results number ≡ Some result → IsResult terms tree number result

-- the verdicts that a protocol ought to have: no violation, and nothing that waits for ever
abbrev pub IsSound : Verdict → Type 0
IsSound Quiet = Unit {0}
IsSound Cut = Unit {0}
IsSound Stuck = ⊥
IsSound (Broke violation) = ⊥

-- each of these results has such a verdict
abbrev pub AreSound : List TrialResult → Type 0
AreSound results = (number : ℕ) (result : TrialResult) → slice_get results number ≡ Some result → IsSound result.verdict

-- the trial broke
abbrev pub HasBroken : Verdict → Type 0
HasBroken (Broke violation) = Unit {0}
HasBroken other = ⊥

-- the trial didn't break
abbrev pub IsUnbroken : Verdict → Type 0
IsUnbroken (Broke violation) = ⊥
IsUnbroken other = Unit {0}

-- none of these results broke
abbrev pub AreUnbroken : List TrialResult → Type 0
AreUnbroken results = (number : ℕ) (result : TrialResult) → slice_get results number ≡ Some result → IsUnbroken result.verdict
