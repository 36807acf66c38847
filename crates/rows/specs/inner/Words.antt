-- Flags as the bits of words of 64.
use Rattle.std.specs.Prelude.{◌≡◌, ℕ, ◌+◌, ◌*◌, ◌/◌, ◌%◌, ◌<◌, ◌≤◌, ◌^◌, List, Bool, zero, suc, ◌==◌}
use Rattle.std.specs.Prelude.{length, map, slice_index, drop, take, ◌++◌}
use Rattle.std.specs.Int.{bit_at}
use Rattle.std.specs.Int.RustNames.{count_ones}
use Rattle.std.specs.List.{range_with_len}
use Rattle.rows.specs.Flags.{set_count}

-- the bit for a place
abbrev pub bit : List ℕ → ℕ → ℕ
bit words at = bit_at (slice_index words (at / 64)) (at % 64)

-- the flags of so many places
abbrev pub flags_of : List ℕ → ℕ → List Bool
flags_of words places = map (λ at. bit words at == 1) (range_with_len 0 places)

-- how many of a word's first bits are set
abbrev pub low : ℕ → ℕ → ℕ
low word n = count_ones (word % 2 ^ n)

-- how many of the first bits are set
abbrev pub below : List ℕ → ℕ → ℕ
below words zero = 0
below words (suc n) = below words n + bit words n

-- there are words for all places, which are few enough for a `u32`, no bit is set beyond them, and the ones are counted
pub record IsRowOfWords (words : List ℕ) (places ones : ℕ) : Type 0 where
  pub long : places ≤ 64 * length words
  pub clean : (at : ℕ) → places ≤ at → bit words at ≡ 0
  pub few : places < 2 ^ 32
  pub counted : ones ≡ set_count (flags_of words places)

-- as many words of a row as both have, in the place of those of another
abbrev pub copied_over : List ℕ → List ℕ → List ℕ
copied_over from to = take (length to) from ++ drop (length from) to
