-- What comes of a recording's text that is written again in version 2.
use Rattle.std.specs.Prelude.{◌≡◌, ℕ, ◌<◌, List, Option, Bool, true, length, take}
use Rattle.std.specs.Io.KnownBytes.{Appends}
use Rattle.record_lines.specs.Refused.{IsRefused}
use Rattle.record.specs.TextRead.{IsTextRead}
use Rattle.record.specs.Text.{text}
use Rattle.record.specs.View.{RecordingView}
use Rattle.record_lines.specs.declared.due.Due.TheVariants.{Header}
use Rattle.record_lines.specs.declared.fault.ReadFault.{ReadFault}
use Rattle.record_lines.specs.declared.fault.ReadKind.TheVariants.{Device}
use Rattle.record.specs.declared.moving.MoveFault.{MoveFault}
use Rattle.record.specs.declared.moving.MoveFault.TheVariants.{Read, Write}
use Rattle.record_lines.specs.declared.version.Version.TheVariants.{Two}

-- what a source had left and has left, what a sink had and has, whether the source has failed, and whether the sink had and has
pub record Passing : Type 0 where
  pub left : Option (List ℕ)
  pub left_then : Option (List ℕ)
  pub taken : Option (List ℕ)
  pub taken_then : Option (List ℕ)
  pub source_has_failed : Bool
  pub had_failed : Bool
  pub has_failed : Bool

-- the source had a text of a recording, of either version, and the sink has got its text in version 2
pub record IsMoved (p : Passing) : Type 0 where
  pub recording : RecordingView
  pub read : IsTextRead p.left p.left_then recording
  pub sent : Appends p.taken p.taken_then (text Two recording)
  pub mark : p.has_failed ≡ p.had_failed

-- a reader has refused the source, of a failed device only where it failed, and nothing was put into the sink
pub record IsTurnedDown (p : Passing) (fault : ReadFault) : Type 0 where
  pub refused : IsRefused p.left p.left_then 0 Header fault.line fault.kind
  pub device : fault.kind ≡ Device → p.source_has_failed ≡ true
  pub kept : p.taken_then ≡ p.taken
  pub mark : p.has_failed ≡ p.had_failed

-- the sink has failed behind so many bytes of it, which aren't all
pub record IsCutShort (p : Passing) (written : ℕ) : Type 0 where
  pub recording : RecordingView
  pub read : IsTextRead p.left p.left_then recording
  pub sent : Appends p.taken p.taken_then (take written (text Two recording))
  pub short : written < length (text Two recording)
  pub failed : p.has_failed ≡ true

-- a text is refused as a reader refuses it, and nothing went out; or the sink has failed
abbrev pub IsMoveFault : Passing → MoveFault → Type 0
IsMoveFault p (Read fault) = IsTurnedDown p fault
IsMoveFault p (Write fault) = IsCutShort p fault.written
