-- Which recordings have a text of which version.
use Rattle.record_lines.specs.Versions.{IsShapeIn, CanTell}
use Rattle.record_lines.specs.declared.version.Version.{Version}
use Rattle.record.specs.View.{RecordingView}

-- a recording that has a text of this version
pub record HasTextIn (version : Version) (r : RecordingView) : Type 0 where
  pub shape : IsShapeIn version r.shape
  pub told : CanTell version r.tables.protocol r.seats
