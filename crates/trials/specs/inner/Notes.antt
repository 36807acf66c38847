-- Of which recordings the notes of a trial tell.
use Rattle.std.specs.Prelude.{◌≡◌, length}
use Rattle.record.specs.View.{RecordingView}
use Rattle.trials.specs.declared.notes.Tally.{Tally}

-- a recording without seats tells of itself
abbrev pub is_recording : RecordingView → RecordingView → Type 0
is_recording notes r = (notes ≡ r) × (notes.seats ≡ 0)

-- a tally tells of each recording that has as many entries
abbrev pub counts : Tally → RecordingView → Type 0
counts tally r = tally.steps ≡ length r.entries
