-- What is kept of entries that are read. Only private clauses cite this file.
use Rattle.std.specs.Prelude.{◌≡◌, ℕ, ◌+◌, ◌≤◌, [], Option, Some, None, length}
use Rattle.std.specs.Vec.{vec_capacity}
use Rattle.record.specs.View.{RecordingView}
use Rattle.record.specs.declared.entries.KeptEntries.{KeptEntries}

-- entries that are kept are those of this recording, with its owners; where no recording is told of yet, there are none
abbrev pub holds : KeptEntries → Option RecordingView → Type 0
holds kept None = (kept.entries.items ≡ []) × (kept.owners.items ≡ [])
holds kept (Some r) = (kept.entries.items ≡ r.entries) × (kept.owners.items ≡ r.owners)

-- there is room for so many more of them
abbrev pub has_space : KeptEntries → ℕ → Type 0
has_space kept more =
    (length kept.entries.items + more ≤ vec_capacity kept.entries) × (length kept.owners.items + more ≤ vec_capacity kept.owners)
