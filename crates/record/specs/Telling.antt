-- What those that take entries are at first, and what they have room for.
use Rattle.std.specs.Prelude.{ℕ, ◌≤◌, Option, None}
use Rattle.record.specs.View.{RecordingView}

-- there is room for each number of entries up to this one
abbrev pub HasRoomUpTo : {N : Type 0} → (N → ℕ → Type 0) → N → ℕ → Type 0
HasRoomUpTo has_room entries most = (n : ℕ) → n ≤ most → has_room entries n

-- what takes the entries has none yet
pub record IsReadyToTake {N : Type 0} (tells : N → Option RecordingView → Type 0) (has_room : N → ℕ → Type 0) (entries : N) : Type 0 where
  pub none : tells entries None
  pub space : has_room entries 0
