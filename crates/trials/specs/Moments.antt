-- How a word leads from a moment of a trial to the next.
use Rattle.std.specs.Prelude.{◌≡◌, ◌+◌, ◌%◌, ℕ, List, Some, length, slice_get}
use Rattle.base.specs.declared.step.Step.{Step}
use Rattle.tables.specs.Tables.{Tables}
use Rattle.machine.specs.Machine.{Next, next}
use Rattle.scenario.specs.Tree.{Tree}
use Rattle.schedule.specs.Choices.{chosen_step, rest_after}
use Rattle.schedule.specs.Words.{word}
use Rattle.schedule.specs.declared.choosing.Choice.{Choice}
use Rattle.moment.specs.Moments.{Moment, choices_at, moment_behind, opened_moment}
use Rattle.record_lines.specs.declared.entry.Entry.{Entry}
use Rattle.trials.specs.Terms.{Terms}

-- the moment at which a trial of a scenario starts
abbrev pub first_moment : Terms → Tree → Moment
first_moment terms tree = opened_moment terms.shape terms.opening tree

-- the entry of a step
abbrev pub entry_of : Step → Next → Entry
entry_of s made = record { step = s; outcome = made.outcome }

-- a word leads from a moment to the next: it takes the choice whose number is the word modulo how many there are
pub record IsNext (tables : Tables) (drawn : ℕ) (before : Moment) (entry : Entry) (behind : Moment) : Type 0 where
  pub choice : Choice
  pub taken : slice_get (choices_at tables before) (drawn % length (choices_at tables before)) ≡ Some choice
  pub made : entry ≡ entry_of (chosen_step choice) (next tables before.state (chosen_step choice))
  pub leads : behind ≡ moment_behind before (chosen_step choice) (next tables before.state (chosen_step choice)) (rest_after choice before.rest)

-- the moments and the entries of a trial, one moment more than entries: each word leads to the next moment
pub record IsPath (terms : Terms) (tree : Tree) (number : ℕ) (moments : List Moment) (entries : List Entry) : Type 0 where
  pub count : length moments ≡ length entries + 1
  pub first : slice_get moments 0 ≡ Some (first_moment terms tree)
  pub each : (k : ℕ) (before behind : Moment) (entry : Entry) →
      slice_get moments k ≡ Some before → slice_get moments (k + 1) ≡ Some behind → slice_get entries k ≡ Some entry →
      IsNext terms.tables (word terms.seed number k) before entry behind
