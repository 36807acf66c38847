use Rattle.std.specs.Prelude.{ℕ, ◌+◌, List, [], ◌∷◌, Bool, false, not, ◌&&◌, ◌==◌, slice_index_or}
use Rattle.network.specs.Room.{one_if}

-- whether a cache is among the sharers, given by a flag for each cache
abbrev pub shares : List Bool → ℕ → Bool
shares flags cache = slice_index_or flags cache false

-- how many sharers there are besides a cache, where the flags are those of the caches from a number on
abbrev pub others_from : ℕ → ℕ → List Bool → ℕ
others_from i cache [] = 0
others_from i cache (flag ∷ flags) = one_if (flag && not (i == cache)) + others_from (i + 1) cache flags

-- whether the sharers are exactly this cache
abbrev pub is_sole : ℕ → List Bool → Bool
is_sole cache flags = shares flags cache && (others_from 0 cache flags == 0)
