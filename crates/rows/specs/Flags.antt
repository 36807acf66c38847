-- A row of flags, and the places of those that are set.
use Rattle.std.specs.Prelude.{◌≡◌, ℕ, ◌<◌, ◌≤◌, ◌==◌, List, Bool, true, false, if◌then◌else◌, length, slice_index_or, take}
use Rattle.std.specs.Int.{bit_at}
use Rattle.std.specs.List.{count_by}

-- whether the flag at a place is set; beyond the row none is
abbrev pub is_set : List Bool → ℕ → Bool
is_set flags at = slice_index_or flags at false

-- how many flags are set
abbrev pub set_count : List Bool → ℕ
set_count flags = count_by (λ flag. flag) flags

-- the first place from one on whose flag is set
pub record IsFirstFrom (flags : List Bool) (from at : ℕ) : Type 0 where
  pub behind : from ≤ at
  pub set : is_set flags at ≡ true
  pub first : (k : ℕ) → from ≤ k → k < at → is_set flags k ≡ false

-- no flag is set from a place on
pub record NoneFrom (flags : List Bool) (from : ℕ) : Type 0 where
  pub none : (k : ℕ) → from ≤ k → is_set flags k ≡ false

-- the place of the k-th flag that is set, counted from 0
pub record IsKth (flags : List Bool) (k at : ℕ) : Type 0 where
  pub set : is_set flags at ≡ true
  pub before : set_count (take at flags) ≡ k

-- the flags at these places, each a bit that is set, are as told by bits; the others are as they were
pub record HasPut (places told : ℕ) (old new : List Bool) : Type 0 where
  pub long : length new ≡ length old
  pub each : (k : ℕ) → is_set new k ≡ (if bit_at places k == 1 then bit_at told k == 1 else is_set old k)
