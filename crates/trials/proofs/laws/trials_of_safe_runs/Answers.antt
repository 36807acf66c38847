use Rattle.std.proofs.Common.{◌≡◌, ◌↔◌, ℕ, List, false, refl, sym, subst}
use Rattle.base.specs.declared.step.Outcome.{Outcome}
use Rattle.machine.specs.Coherence.{Explained, Safe}
use Rattle.machine.specs.Completions.{completions}
use Rattle.machine.specs.Machine.{State, opened}
use Rattle.machine.specs.Unstuck.{Unstuck}
use Rattle.record.specs.View.{RecordingView, steps_of}
use Rattle.scenario.specs.Tree.{Tree}
use Rattle.trials.specs.Terms.{Terms, RunsAreSafe, RunsAreUnstuck}
use Rattle.trials.specs.Trial.{HasBroken, IsResult, IsSound, IsTrial, IsUnbroken, IsVerdict}
use Rattle.trials.specs.declared.verdict.Verdict.{Verdict}
use Rattle.trials.specs.declared.verdict.Verdict.TheVariants.{Quiet, Cut, Stuck, Broke}
use Rattle.trials.proofs.Tracked.{path-tracked}
use Rattle.trials.proofs.Verdicts.{trial-state, trial-told, sound}
use Rattle.trials.proofs.Rests.{at-rest, stays-whole}
use Rattle.trials.proofs.laws.trials_of_safe_runs.Goals as goal

unbroken : (verdict : Verdict) → (HasBroken verdict → ⊥) → IsUnbroken verdict
unbroken Quiet h = tt
unbroken Cut h = tt
unbroken Stuck h = tt
unbroken (Broke violation) h = h tt

-- where each run is safe a trial didn't break
is-unbroken : (terms : Terms) (recording : RecordingView) (verdict : Verdict) →
    HasBroken verdict ↔ (¬ Safe terms.shape terms.tables terms.opening (steps_of recording)) → RunsAreSafe terms → IsUnbroken verdict
is-unbroken terms recording verdict broke safe = unbroken verdict (λ b. broke.0 b (safe (steps_of recording)))

-- and where none gets stuck either it isn't stuck
is-sound : (terms : Terms) (tree : Tree) (number : ℕ) (recording : RecordingView) (verdict : Verdict) →
    HasBroken verdict ↔ (¬ Safe terms.shape terms.tables terms.opening (steps_of recording)) → RunsAreSafe terms → RunsAreUnstuck terms →
    IsTrial terms tree number recording verdict → IsSound verdict
is-sound terms tree number recording verdict broke safe unstuck trial =
    let steps = steps_of recording in
    let state = trial-state terms tree number recording verdict trial in
    sound verdict (λ b. broke.0 b (safe steps))
    (λ is. let ends = subst (IsVerdict terms steps trial.last) is trial.ends in
    ends.2
    (at-rest terms.tables trial.last (subst (Unstuck terms.tables) (sym state) (unstuck steps))
    (path-tracked terms tree number trial.moments recording.entries trial.path _ trial.last trial.at_last)
    (subst (λ (s : State). s.broken ≡ false) (sym state)
    (stays-whole terms.tables (opened terms.shape terms.opening) steps refl (safe steps).unmet)) ends.1))

pub returns-clause-safe : goal.returns-clause-safe
returns-clause-safe c terms safe = record {
  unbroken = λ tree number recording verdict trial.
      is-unbroken terms recording verdict (c.trials_break_where_they_arent_safe.ensures.broke terms tree number recording verdict trial) safe;
  sequential = λ tree number recording verdict trial. record {
    in_turn = c.cores_are_answered_in_turn.ensures terms tree number trial.moments recording.entries trial.path;
    latest =
        subst (λ (told : List Outcome). Explained terms.opening (completions (steps_of recording) told))
        (sym (trial-told terms tree number recording verdict trial)) (safe (steps_of recording)).explained;
  };
  unbroken_batch = λ tree n results are number result at.
      let its : IsResult terms tree number result = are.each number result at in
      is-unbroken terms its.recording result.verdict
      (c.trials_break_where_they_arent_safe.ensures.broke terms tree number its.recording result.verdict its.trial) safe;
}

pub returns-clause-sound : goal.returns-clause-sound
returns-clause-sound c terms safe unstuck = record {
  sound = λ tree number recording verdict trial.
      is-sound terms tree number recording verdict
      (c.trials_break_where_they_arent_safe.ensures.broke terms tree number recording verdict trial) safe unstuck trial;
  sound_batch = λ tree n results are number result at.
      let its : IsResult terms tree number result = are.each number result at in
      is-sound terms tree number its.recording result.verdict
      (c.trials_break_where_they_arent_safe.ensures.broke terms tree number its.recording result.verdict its.trial) safe unstuck its.trial;
}
