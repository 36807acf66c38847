-- A row of numbers, and what is found in it.
use Rattle.std.specs.Prelude.{ℕ, ◌≡◌, ◌+◌, ◌<◌, List, take, slice_index}
use Rattle.std.specs.List.{sum}

-- the k-th, counted from 0, falls in the number at a place, and a rest of k is left there: the numbers before it sum up
-- to what k is above the rest
pub record Finds (numbers : List ℕ) (k place rest : ℕ) : Type 0 where
  pub front : sum (take place numbers) + rest ≡ k
  pub within : rest < slice_index numbers place
