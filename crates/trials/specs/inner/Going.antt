-- A trial on its way.
use Rattle.std.specs.Prelude.{◌≡◌, ◌<◌, ◌%◌, ℕ, List, [], Option, Some, None, length, slice_get}
use Rattle.rand_pcg.specs.Lcg.{Lcg, next}
use Rattle.rand_pcg.specs.Pcg.{multiplier_64}
use Rattle.base.specs.declared.step.Step.{Step}
use Rattle.machine.specs.declared.made.Made.{Made}
use Rattle.machine.specs.Machine.{after, opened}
use Rattle.monitor.specs.declared.violation.Violation.{Violation}
use Rattle.monitor.specs.Watching.{AnswersLast}
use Rattle.world.specs.View.{View}
use Rattle.scenario.specs.Alike.{Alike}
use Rattle.scenario.specs.Tree.{Tree}
use Rattle.schedule.specs.Words.{dice, dice_after, word_of}
use Rattle.moment.specs.Moments.{Moment}
use Rattle.moment.specs.Seen as seen
use Rattle.moment.specs.Seen.{IsAt, IsLike, IsWorldOf, Rests, Seen, choices_in}
use Rattle.record.specs.View.{RecordingView, opened_recording, steps_of, with_entry}
use Rattle.trials.specs.declared.verdict.Verdict.{Verdict}
use Rattle.trials.specs.declared.verdict.Verdict.TheVariants.{Quiet, Stuck, Broke}
use Rattle.trials.specs.declared.course.Course as course
use Rattle.trials.specs.Terms.{Terms, AreLawful}
use Rattle.trials.specs.Moments.{IsPath, first_moment}
use Rattle.trials.specs.Trial.{AreClean, IsTrial, IsUnowned}

-- the parts of a trial: its moment, the dice, and the recording
pub record Course : Type 0 where
  pub moment : Seen
  pub dice : Lcg
  pub recording : RecordingView

-- the parts of a trial, as its code keeps them, where its notes tell of this recording
abbrev pub parts_of : {A N : Type 0} → RecordingView → course.Course A N → Course
parts_of r c = record { moment = c.moment; dice = c.dice; recording = r }

-- the moment of a trial is one under these terms, whatever has come of it
pub record IsUnder (terms : Terms) (m : Seen) : Type 0 where
  pub shape : m.shape ≡ terms.shape
  pub tables : m.tables ≡ terms.tables
  pub opening : m.opening ≡ terms.opening

-- and it is restarted from this scenario, or from one that is alike
pub record IsOf (terms : Terms) (tree : Tree) (m : Seen) : Type 0 where
  pub under : IsUnder terms m
  pub scenario : Alike m.scenario tree

-- the recording's entries were told by a path, and the parts are as the path's last moment is
pub record IsGoing (terms : Terms) (tree : Tree) (number : ℕ) (c : Course) : Type 0 where
  pub under : IsUnder terms c.moment
  pub shape : c.recording.shape ≡ terms.shape
  pub tables : c.recording.tables ≡ terms.tables
  pub opening : c.recording.opening ≡ terms.opening
  pub unowned : IsUnowned c.recording
  pub moments : List Moment
  pub last : Moment
  pub path : IsPath terms tree number moments c.recording.entries
  pub at_last : slice_get moments (length c.recording.entries) ≡ Some last
  pub at : IsAt c.moment last
  pub drawn : c.dice ≡ dice_after terms.seed number (length c.recording.entries)
  pub led : last.state ≡ (after terms.tables (opened terms.shape terms.opening) (steps_of c.recording)).state
  pub clean : AreClean terms (steps_of c.recording)

-- the recording of a trial that starts
abbrev pub blank : Terms → RecordingView
blank terms = opened_recording terms.shape terms.tables terms.opening

-- the parts of a trial that starts
pub record Starts (terms : Terms) (tree : Tree) (number : ℕ) (c : Course) : Type 0 where
  pub of : IsOf terms tree c.moment
  pub at : IsAt c.moment (first_moment terms tree)
  pub dice : c.dice ≡ dice terms.seed number
  pub recording : c.recording ≡ blank terms

-- its notes tell of no entry, and its parts are those of a trial that starts
pub record Begins {A N : Type 0} (tells : N → RecordingView → Type 0) (terms : Terms) (tree : Tree) (number : ℕ) (c : course.Course A N) : Type 0 where
  pub told : tells c.notes (blank terms)
  pub starts : Starts terms tree number (parts_of (blank terms) c)

-- some trial starts so, of at most so many steps
abbrev pub IsStart : {A N : Type 0} → (N → RecordingView → Type 0) → ℕ → course.Course A N → Type 0
IsStart tells limit c =
    (terms : Terms) × (tree : Tree) × (number : ℕ) × (terms.limit ≡ limit) × AreLawful terms × Begins tells terms tree number c

-- a word of the dice has chosen the number of a choice, where there is one, and nothing else has changed
abbrev pub Chooses : Course → Option ℕ → Course → Type 0
Chooses old None new = (choices_in old.moment ≡ []) × (new ≡ old)
Chooses old (Some k) new =
    (k < length (choices_in old.moment)) × (k ≡ word_of old.dice % length (choices_in old.moment))
    × (new ≡ record old { dice = next 64 multiplier_64 old.dice })

-- the verdict where there is no choice: whether nothing is left to do
abbrev pub IsVerdictAtRest : Seen → Verdict → Type 0
IsVerdictAtRest m Quiet = Rests m
IsVerdictAtRest m Stuck = ¬ Rests m
IsVerdictAtRest m other = ⊥

-- the k-th choice has been made, and its step recorded and looked at
pub record MakesAndNotes (old : Course) (k : ℕ) (new : Course) (violation : Option Violation) : Type 0 where
  pub step : Step
  pub made : Made
  pub makes : seen.MakesChoice old.moment k step made new.moment
  pub like : IsLike old.moment new.moment
  pub dice : new.dice ≡ old.dice
  pub recorded : new.recording ≡ with_entry old.recording (record { step = step; outcome = made.outcome })
  pub world : View
  pub is : IsWorldOf world new.moment
  pub answer : AnswersLast world step made.outcome violation

-- so it is of each recording of which the old notes told, and the new ones tell of what it has become
abbrev pub MakesNoted : {A N : Type 0} → (N → RecordingView → Type 0) → course.Course A N → ℕ → course.Course A N → Option Violation → Type 0
MakesNoted tells old k new violation =
    (r : RecordingView) → tells old.notes r → (made : RecordingView) × tells new.notes made × MakesAndNotes (parts_of r old) k (parts_of made new) violation

-- with this violation, if there is one, the trial has ended; else it goes on, with one more entry
abbrev pub GoesOn : Terms → Tree → ℕ → Course → Option Violation → Type 0
GoesOn terms tree number c None = IsGoing terms tree number c
GoesOn terms tree number c (Some violation) = IsTrial terms tree number c.recording (Broke violation)

-- the notes tell of the recording of the trial that began so, whose verdict this is
abbrev pub Ends : {A N : Type 0} → (N → RecordingView → Type 0) → course.Course A N → ℕ → course.Course A N → Verdict → Type 0
Ends tells old limit new verdict = (terms : Terms) (tree : Tree) (number : ℕ) → terms.limit ≡ limit → Begins tells terms tree number old →
    (r : RecordingView) × tells new.notes r × IsTrial terms tree number r verdict
