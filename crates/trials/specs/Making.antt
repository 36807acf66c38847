-- What comes of a trial that is made, and of a batch, and what all trials under terms are.
use Rattle.std.specs.Prelude.{◌≡◌, ◌↔◌, ◌<◌, ◌≤◌, ℕ, List, length}
use Rattle.machine.specs.Coherence.{Safe}
use Rattle.machine.specs.Going.{AreNeverStuck}
use Rattle.machine.specs.Machine.{opened}
use Rattle.machine.specs.Restraint.{AreRestrained}
use Rattle.record.specs.View.{RecordingView, IsLegal, steps_of}
use Rattle.scenario.specs.Tree.{Tree}
use Rattle.trials.specs.Answering.{AnswersInTurn, AreSequential}
use Rattle.trials.specs.Terms.{Terms}
use Rattle.trials.specs.Trial.{AreResults, AreSound, AreUnbroken, HasBroken, IsSound, IsTrial, IsUnbroken}
use Rattle.trials.specs.declared.batches.BatchFault.{BatchFault}
use Rattle.trials.specs.declared.batches.BatchFault.TheVariants.{TooMany, NoMemory}
use Rattle.trials.specs.declared.verdict.TrialResult.{TrialResult}
use Rattle.trials.specs.declared.verdict.Verdict.{Verdict}
use Rattle.world.specs.View.{View}

-- a world under these terms has made no step
pub record StartsUnder (terms : Terms) (world : View) : Type 0 where
  pub shape : world.shape ≡ terms.shape
  pub tables : world.tables ≡ terms.tables
  pub opening : world.opening ≡ terms.opening
  pub state : world.state ≡ opened terms.shape terms.opening

-- the trial of this number has come to this: its recording is legal, answers each core in its order, and broke exactly where its steps aren't safe. Under
-- restrained tables it didn't, and is sequentially consistent; under those that keep going it isn't stuck either
pub record MakesTrial (terms : Terms) (tree : Tree) (number : ℕ) (recording : RecordingView) (result : TrialResult) : Type 0 where
  pub trial : IsTrial terms tree number recording result.verdict
  pub numbered : result.number ≡ number
  pub steps : result.steps ≡ length recording.entries
  pub legal : IsLegal recording
  pub in_turn : AnswersInTurn recording.entries
  pub broke : HasBroken result.verdict ↔ (¬ Safe terms.shape terms.tables terms.opening (steps_of recording))
  pub unbroken : AreRestrained terms.tables → IsUnbroken result.verdict
  pub sequential : AreRestrained terms.tables → AreSequential terms.opening recording.entries
  pub sound : AreNeverStuck terms.tables → IsSound result.verdict

-- the first n trials have come to these results: under restrained tables none broke, and under those that keep going none is stuck either
pub record MakesBatch (terms : Terms) (tree : Tree) (n : ℕ) (results : List TrialResult) : Type 0 where
  pub few : n ≤ 1000000
  pub made : AreResults terms tree n results
  pub unbroken : AreRestrained terms.tables → AreUnbroken results
  pub sound : AreNeverStuck terms.tables → AreSound results

-- why so many trials aren't made
abbrev pub IsBatchFault : ℕ → BatchFault → Type 0
IsBatchFault n TooMany = 1000000 < n
IsBatchFault n NoMemory = n ≤ 1000000

-- whatever the scenario, no trial under these terms breaks, and the completions of each are sequentially consistent
pub record TrialsAreSafe (terms : Terms) : Type 0 where
  pub unbroken : (tree : Tree) (number : ℕ) (recording : RecordingView) (verdict : Verdict) →
      IsTrial terms tree number recording verdict → IsUnbroken verdict
  pub sequential : (tree : Tree) (number : ℕ) (recording : RecordingView) (verdict : Verdict) →
      IsTrial terms tree number recording verdict → AreSequential terms.opening recording.entries
  pub unbroken_batch : (tree : Tree) (n : ℕ) (results : List TrialResult) → AreResults terms tree n results → AreUnbroken results

-- whatever the scenario, no trial under these terms breaks, and none is stuck
pub record TrialsAreSound (terms : Terms) : Type 0 where
  pub sound : (tree : Tree) (number : ℕ) (recording : RecordingView) (verdict : Verdict) → IsTrial terms tree number recording verdict → IsSound verdict
  pub sound_batch : (tree : Tree) (n : ℕ) (results : List TrialResult) → AreResults terms tree n results → AreSound results
