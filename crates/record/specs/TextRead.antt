-- What has been read of a source that had the text of a recording.
use Rattle.std.specs.Prelude.{◌≡◌, ℕ, List, Option, Some, Bool, true}
use Rattle.std.specs.Io.KnownBytes.{Consumes}
use Rattle.record.specs.Recordable.{IsRecordable}
use Rattle.record_lines.specs.Refused.{IsRefused, IsWellFormed}
use Rattle.record.specs.Text.{text}
use Rattle.record.specs.Versions.{HasTextIn}
use Rattle.record.specs.View.{RecordingView}
use Rattle.record_lines.specs.declared.due.Due.TheVariants.{Header}
use Rattle.record_lines.specs.declared.fault.ReadFault.{ReadFault}
use Rattle.record_lines.specs.declared.fault.ReadKind.TheVariants.{Device}
use Rattle.record_lines.specs.declared.version.Version.{Version}

-- what a source had, up to what it has left, was a text of this recording, in either version
pub record IsTextRead (before after : Option (List ℕ)) (r : RecordingView) : Type 0 where
  pub version : Version
  pub told : HasTextIn version r
  pub read : Consumes before after (text version r)

-- a recording was read: what a source had was a text of it, from the first line to the last, and no type promises more of it than holds
pub record ReadsText (before after : Option (List ℕ)) (r : RecordingView) : Type 0 where
  pub text : IsTextRead before after r
  pub whole : IsWellFormed before after
  pub recordable : IsRecordable r

-- what a source had was a text of a recording, and what has taken the entries tells of it
pub record HasTold {N : Type 0} (tells : N → Option RecordingView → Type 0) (before after : Option (List ℕ)) (entries : N) : Type 0 where
  pub recording : RecordingView
  pub recordable : IsRecordable recording
  pub read : IsTextRead before after recording
  pub told : tells entries (Some recording)

-- what a source had is refused so: by its first line with a fault, counted from the first one
abbrev pub IsReadFault : Option (List ℕ) → Option (List ℕ) → ReadFault → Type 0
IsReadFault before after fault = IsRefused before after 0 Header fault.line fault.kind

-- a reader refuses a source so, and names the device only where that has failed
pub record RefusesText (before after : Option (List ℕ)) (has_failed : Bool) (fault : ReadFault) : Type 0 where
  pub refused : IsReadFault before after fault
  pub device : fault.kind ≡ Device → has_failed ≡ true
