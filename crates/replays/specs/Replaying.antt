-- What a replay finds: the first entry that differs.
use Rattle.std.specs.Prelude.{◌≡◌, ◌≢◌, ◌↔◌, ℕ, List, Option, Some, None, length, slice_get, take}
use Rattle.base.specs.declared.step.Outcome.{Outcome}
use Rattle.record.specs.View.{RecordingView, told_by, found_by, steps_of, IsLegal}
use Rattle.machine.specs.Coherence.{Safe}
use Rattle.machine.specs.Restraint.{AreRestrained}
use Rattle.monitor.specs.Violations.{AnswersFirst}
use Rattle.monitor.specs.declared.violation.Violation.{Violation}
use Rattle.record.specs.Recordable.{IsRecordable}
use Rattle.record.specs.TextRead.{IsReadFault, IsTextRead}
use Rattle.record_lines.specs.declared.fault.ReadKind.TheVariants.{Device}
use Rattle.replays.specs.declared.replaying.ReplayFault.{ReplayFault}
use Rattle.replays.specs.declared.replaying.ReplayFault.TheVariants.{Differs, NoMemory}
use Rattle.replays.specs.declared.text_replaying.TextFault.{TextFault}
use Rattle.replays.specs.declared.text_replaying.TextFault.TheVariants.{Read, Replay}
use Rattle.replays.specs.declared.text_replaying.TextReplayed.{TextReplayed}

-- this entry is the first whose outcome isn't that of its step: another one is told than is found, and those before it are as told
pub record IsFirstToDiffer (r : RecordingView) (entry : ℕ) (told found : Outcome) : Type 0 where
  pub is_told : slice_get (told_by r) entry ≡ Some told
  pub is_found : slice_get (found_by r) entry ≡ Some found
  pub differs : told ≢ found
  pub first : take entry (told_by r) ≡ take entry (found_by r)

-- a replay is refused so: the first entry that differs, or want of memory
abbrev pub FaultOf : RecordingView → ReplayFault → Type 0
FaultOf r (Differs entry told found) = IsFirstToDiffer r entry told found
FaultOf r NoMemory = Unit {0}

-- a replay of a recording has found this: each outcome is as told, and this is the first violation, if there is one. There is none exactly where the
-- steps are safe, and so under restrained tables
pub record FindsViolation (r : RecordingView) (violation : Option (ℕ × Violation)) : Type 0 where
  pub legal : IsLegal r
  pub first : AnswersFirst r.shape r.tables r.opening (steps_of r) violation
  pub safe : violation ≡ None ↔ Safe r.shape r.tables r.opening (steps_of r)
  pub clean : AreRestrained r.tables → violation ≡ None

-- what a source had was a text of a recording, whose replay found this
pub record IsTextReplayed (before after : Option (List ℕ)) (replayed : TextReplayed) : Type 0 where
  pub recording : RecordingView
  pub recordable : IsRecordable recording
  pub read : IsTextRead before after recording
  pub entries : replayed.entries ≡ length recording.entries
  pub finds : FindsViolation recording replayed.violation

-- what a source had was a text of a recording, whose replay is refused so
pub record IsTextNotReplayed (before after : Option (List ℕ)) (fault : ReplayFault) : Type 0 where
  pub recording : RecordingView
  pub recordable : IsRecordable recording
  pub read : IsTextRead before after recording
  pub refused : FaultOf recording fault

-- a text is refused as a reader refuses it, or else the replay of its recording is
abbrev pub IsTextFault : Option (List ℕ) → Option (List ℕ) → TextFault → Type 0
IsTextFault before after (Read fault) = IsReadFault before after fault
IsTextFault before after (Replay fault) = IsTextNotReplayed before after fault

-- the device failed
abbrev pub IsOfDevice : TextFault → Type 0
IsOfDevice (Read fault) = fault.kind ≡ Device
IsOfDevice (Replay fault) = ⊥
