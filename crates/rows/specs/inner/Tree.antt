-- A tree of sums, kept as a list: the node at i stands over the four from 4 i + 1 on, and the first is at 0.
use Rattle.std.specs.Prelude.{◌≡◌, ℕ, ◌+◌, ◌-◌, ◌*◌, ◌^◌, ◌<◌, ◌≤◌, ◌⊎◌, List, zero, suc, drop}
use Rattle.std.specs.Prelude.{length, slice_index, take}

-- where a level begins, so many levels below the first node: behind all levels above
abbrev pub level_at : ℕ → ℕ
level_at zero = 0
level_at (suc n) = 4 * level_at n + 1

-- the numbers under the tree, which are its last level
abbrev pub numbers_of : List ℕ → ℕ → ℕ → List ℕ
numbers_of tree first count = take count (drop first tree)

-- the sum of so many nodes from one on
abbrev pub span : List ℕ → ℕ → ℕ → ℕ
span tree from zero = 0
span tree from (suc n) = span tree from n + slice_index tree (from + n)

-- the sum of the four nodes below one
abbrev pub below : List ℕ → ℕ → ℕ
below tree i = slice_index tree (4 * i + 1) + slice_index tree (4 * i + 2) + slice_index tree (4 * i + 3) + slice_index tree (4 * i + 4)

-- each node before the numbers is the sum of the four below it
pub record IsSummed (tree : List ℕ) (first : ℕ) : Type 0 where
  pub each : (i : ℕ) → i < first → slice_index tree i ≡ below tree i

-- a tree over so many numbers, which begin at a place
pub record IsTree (tree : List ℕ) (first levels count : ℕ) : Type 0 where
  pub begins : first ≡ level_at levels
  pub long : length tree ≡ 4 * first + 1
  pub wide : count ≤ 3 * first + 1
  pub few : count < 2 ^ 32
  pub sums : IsSummed tree first
  pub small : (i : ℕ) → first ≤ i → slice_index tree i < 2 ^ 32
  pub past : (i : ℕ) → first + count ≤ i → slice_index tree i ≡ 0

-- on the way down to the k-th: a node of a level, the nodes before which sum up to what k is above the rest
pub record IsOnTheWay (tree : List ℕ) (level node rest k : ℕ) : Type 0 where
  pub least : level_at level ≤ node
  pub most : node < level_at (suc level)
  pub front : span tree (level_at level) (node - level_at level) + rest ≡ k
  pub within : rest < slice_index tree node

-- while a write goes up: all nodes are sums but the one over this, which still counts what stood before for what
-- stands after
pub record IsRising (tree : List ℕ) (first node before after : ℕ) : Type 0 where
  pub others : (i : ℕ) → i < first → (node ≤ 4 * i) ⊎ (4 * i + 4 < node) → slice_index tree i ≡ below tree i
  pub over : (i : ℕ) → 4 * i < node → node ≤ 4 * i + 4 → slice_index tree i + after ≡ below tree i + before
  pub has : after ≤ slice_index tree node
  pub room : (i : ℕ) → i < node → slice_index tree i + 2 ^ 32 ≤ 2 ^ 64
