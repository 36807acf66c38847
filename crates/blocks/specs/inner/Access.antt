-- Who may read and write a block, as it is counted and looked for.
use Rattle.std.specs.Prelude.{ℕ, ◌+◌, ◌<◌, ◌≤◌, ◌^◌, List, Option, Some, None, Bool, if◌then◌else◌, min, slice_index_or}
use Rattle.base.specs.declared.ids.CacheId.{CacheId}
use Rattle.network.specs.Room.{one_if}
use Rattle.control.specs.declared.line.Line.{Line}
use Rattle.control.specs.LineEffect.{is_writer, opened_line}

-- a count follows one that was counted or wasn't, and is so from now on or isn't: it can be taken back, and there is room for it
pub record CanRecount (count : ℕ) (before after : Bool) : Type 0 where
  pub there : one_if before ≤ count
  pub room : count + one_if after < 2 ^ 32 + one_if before

-- whether the line of a cache may write
abbrev pub writes_at : List Line → ℕ → Bool
writes_at lines cache = is_writer (slice_index_or lines cache opened_line).state

-- a cache, if it is there and its line may write
abbrev pub writer_on : List Line → Option ℕ → Option CacheId
writer_on lines None = None
writer_on lines (Some cache) = if writes_at lines cache then Some (record { 0 = cache }) else None

-- the lesser of two caches, or the one that is there
abbrev pub lesser : Option CacheId → Option CacheId → Option CacheId
lesser None other = other
lesser (Some a) None = Some a
lesser (Some a) (Some b) = Some (record { 0 = min a.0 b.0 })
