-- Where the asks about a block are in a long list, by their places.
use Rattle.std.specs.Prelude.{◌≡◌, ◌%◌, ◌<◌, ℕ, List, [], Some, length, map, slice_get, slice_index_or}
use Rattle.std.specs.List.{Contains}
use Rattle.base.specs.declared.step.CoreAsk.{CoreAsk}
use Rattle.schedule.specs.declared.places.Places.{Places}

-- the place of each of the first asks is in the row of its block
abbrev pub AreInRows : List (List ℕ) → List CoreAsk → ℕ → Type 0
AreInRows rows asks count = (n : ℕ) (ask : CoreAsk) → n < count → slice_get asks n ≡ Some ask → Contains (slice_index_or rows (ask.block.0 % 64) []) n

-- there are 64 rows, and the place of each ask is in that of its block
pub record ArePlaced (p : Places) (asks : List CoreAsk) : Type 0 where
  pub rows : length p.rows.items ≡ 64
  pub placed : AreInRows (map (λ row. row.items) p.rows.items) asks (length asks)
