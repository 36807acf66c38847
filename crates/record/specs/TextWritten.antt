-- What has gone out of a recording's text, which is written in version 2.
use Rattle.std.specs.Prelude.{ℕ, ◌<◌, List, Option, length, take}
use Rattle.std.specs.Io.KnownBytes.{Appends}
use Rattle.record.specs.Recordable.{IsRecordable}
use Rattle.record.specs.Text.{text}
use Rattle.record.specs.View.{RecordingView}
use Rattle.record_lines.specs.declared.version.Version.TheVariants.{Two}

-- the text of the recording has gone out; so each of its numbers is in range of its type
pub record WritesText (before after : Option (List ℕ)) (r : RecordingView) : Type 0 where
  pub sent : Appends before after (text Two r)
  pub recordable : IsRecordable r

-- so many bytes of its text have gone out, and not all
pub record WritesFrontOfText (before after : Option (List ℕ)) (r : RecordingView) (written : ℕ) : Type 0 where
  pub sent : Appends before after (take written (text Two r))
  pub short : written < length (text Two r)
