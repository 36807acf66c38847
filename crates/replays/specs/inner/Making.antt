-- How far the entries of a text have been made. Only private clauses cite this file.
use Rattle.std.specs.Prelude.{◌≡◌, ℕ, List, Option, Some, None, length}
use Rattle.replays.specs.Replaying.{FaultOf}
use Rattle.record.specs.View.{RecordingView}
use Rattle.replays.specs.declared.making.MadeEntries.{MadeEntries}
use Rattle.replays.specs.declared.making.Run.{Run}
use Rattle.replays.specs.declared.making.Stage.{Stage}
use Rattle.record_lines.specs.declared.entry.Entry.{Entry}
use Rattle.replays.specs.declared.making.Stage.TheVariants.{Closed, Same, Refused}
use Rattle.replays.specs.inner.SoFar.{IsSoFar}

-- the first entries of a recording have been made as they are told
abbrev pub HasMadeFirst : RecordingView → List Entry → Run → Type 0
HasMadeFirst r done run = IsSoFar r done run.world run.watch run.violation

-- all of them have
abbrev pub HasMade : RecordingView → Run → Type 0
HasMade r run = HasMadeFirst r r.entries run

-- so far the entries of a recording have been made; behind the first that differs none is
abbrev pub HasCome : RecordingView → Stage → Type 0
HasCome r Closed = ⊥
HasCome r (Same run) = HasMade r run
HasCome r (Refused fault) = FaultOf r fault

-- entries that are made are those of this recording; where no recording is told of yet, there are none
abbrev pub has_made : MadeEntries → Option RecordingView → Type 0
has_made made None = made.count ≡ 0
has_made made (Some r) = (made.count ≡ length r.entries) × HasCome r made.stage

-- they need no room
abbrev pub needs_none : MadeEntries → ℕ → Type 0
needs_none made more = Unit {0}
