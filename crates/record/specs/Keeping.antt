-- What opens a recording and adds entries to it, and why not.
use Rattle.std.specs.Prelude.{◌≡◌, ℕ, ◌<◌, List, length}
use Rattle.base.specs.Extent.{Extent}
use Rattle.tables.specs.Tables.{Tables}
use Rattle.record.specs.declared.recording.PushFault.{PushFault}
use Rattle.record.specs.declared.recording.PushFault.TheVariants.{Full, NoMemory}
use Rattle.record.specs.View.{RecordingView, opened_of}

-- this is a recording of so many seats with no entries, which has one opening value for each block
pub record OpensRecording (seats : ℕ) (shape : Extent) (tables : Tables) (opening : List ℕ) (r : RecordingView) : Type 0 where
  pub each : length opening ≡ shape.blocks
  pub is : r ≡ opened_of seats shape tables opening

-- a recording has room for one entry more
abbrev pub IsNotFull : RecordingView → Type 0
IsNotFull r = length r.entries < 1000000

-- why an entry isn't added to a recording
abbrev pub IsPushFault : RecordingView → PushFault → Type 0
IsPushFault r Full = length r.entries ≡ 1000000
IsPushFault r NoMemory = IsNotFull r
