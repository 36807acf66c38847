-- Which cores may have asked something.
use Rattle.std.specs.Prelude.{◌≡◌, ℕ, Bool, false, List, length, slice_index_or}
use Rattle.rows.specs.Flags.{is_set}
use Rattle.cores.specs.Cores.{Core, idle}

-- a core has asked nothing, unless its flag is set
pub record AreIdleBut (touched : List Bool) (cores : List Core) : Type 0 where
  pub many : length touched ≡ length cores
  pub rest : (number : ℕ) → is_set touched number ≡ false → slice_index_or cores number idle ≡ idle
