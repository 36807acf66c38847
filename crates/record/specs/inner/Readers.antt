-- What a reader has read of a source. Only private clauses cite this file.
use Rattle.std.specs.Prelude.{◌≡◌, ℕ, ◌+◌, ◌≤◌, List, [], Option, length, map}
use Rattle.std.specs.List.{flat_map}
use Rattle.std.specs.Io.KnownBytes.{Consumes}
use Rattle.base.specs.Words.{words}
use Rattle.record_lines.specs.declared.due.Due.TheVariants.{Header, Nothing}
use Rattle.record.specs.declared.reader.Reader.{Reader}
use Rattle.record_lines.specs.Grammar.{Follow}
use Rattle.record_lines.specs.Refused.{ended, limit, HasNoEnd}
use Rattle.record.specs.View.{RecordingView}
use Rattle.record.specs.inner.Drafts.{Kept, recorded, lines_before, lines_left, HasRead, HasRoom}
use Rattle.record.specs.Text.{text}
use Rattle.record.specs.Telling.{HasRoomUpTo}
use Rattle.record_lines.specs.Reading.{BeginsWithEnd, stream}

-- the lines of a source were taken one after the other, they are those of this recording, and its other bytes are still to come
pub record HasTaken {N : Type 0} (before left : Option (List ℕ)) (reader : Reader N) (r : Kept) : Type 0 where
  pub lines : List (List ℕ)
  pub follow : Follow Header lines reader.due
  pub told : map words lines ≡ lines_before reader.due r
  pub number : reader.lines.number ≡ length lines
  pub taken : Consumes before (stream reader.lines left) (flat_map ended lines)

-- so much has been read of a recording
pub record IsReading {N : Type 0} (tells : N → Option RecordingView → Type 0) (before left : Option (List ℕ)) (reader : Reader N) : Type 0 where
  pub recording : Kept
  pub read : HasRead tells reader.due reader.draft reader.entries recording
  pub taken : HasTaken before left reader recording

-- all of a recording has been read, whose text this was
pub record IsReadWhole {N : Type 0} (tells : N → Option RecordingView → Type 0) (before left : Option (List ℕ)) (reader : Reader N) : Type 0 where
  pub recording : Kept
  pub read : HasRead tells Nothing reader.draft reader.entries recording
  pub text : Consumes before left (text recording.version (recorded recording))

-- bytes were pulled at most: none is lost, and what was read is the same
pub record HasPulled {N : Type 0} (tells : N → Option RecordingView → Type 0) (left more : Option (List ℕ)) (old new : Reader N) : Type 0 where
  pub stream : Consumes (stream old.lines left) (stream new.lines more) []
  pub number : new.lines.number ≡ old.lines.number
  pub due : new.due ≡ old.due
  pub draft : new.draft ≡ old.draft
  pub told : (r : Option RecordingView) → tells old.entries r → tells new.entries r

-- what a reader always keeps: among others, there is room for as many entries as there are bytes ahead
pub record IsReady {N : Type 0} (has_room : N → ℕ → Type 0) (reader : Reader N) : Type 0 where
  pub room : HasRoom reader.draft
  pub space : HasRoomUpTo has_room reader.entries (length reader.lines.ahead)
  pub few : reader.lines.number + lines_left reader.due ≤ 1000194
  pub line : reader.due ≡ Nothing → reader.lines.line ≡ []
  pub short : length reader.lines.line ≤ limit reader.due

-- the line that is due is whole
pub record HasWholeLine {N : Type 0} (reader : Reader N) : Type 0 where
  pub whole : BeginsWithEnd reader.lines.ahead
  pub no_end : HasNoEnd reader.lines.line
  pub short : length reader.lines.line ≤ limit reader.due

-- whatever has been read so far, more of it has been read now, and nothing was pulled
abbrev pub StillReads : {N : Type 0} → (N → Option RecordingView → Type 0) → Reader N → Reader N → Type 0
StillReads tells old new = (before left : Option (List ℕ)) → IsReading tells before left old → IsReading tells before left new

-- of some source so much has been read
abbrev pub HasReadSome : {N : Type 0} → (N → Option RecordingView → Type 0) → Reader N → Type 0
HasReadSome tells reader = (before : Option (List ℕ)) × (left : Option (List ℕ)) × IsReading tells before left reader
