-- Where the asks about a block are, by a bit for each.
use Rattle.std.specs.Prelude.{◌≡◌, ◌==◌, ◌%◌, ◌<◌, ◌≤◌, ℕ, true, false, List, Some, length, slice_get, slice_index, slice_index_or}
use Rattle.std.specs.Int.{bit_at}
use Rattle.base.specs.declared.step.CoreAsk.{CoreAsk}
use Rattle.blocks.specs.Asking.{holds}
use Rattle.blocks.specs.declared.block.asking.HeldAsks.{HeldAsks}
use Rattle.schedule.specs.Marks.{is_at}
use Rattle.schedule.specs.declared.groups.Groups.{Groups}
use Rattle.schedule.specs.declared.groups.Row.{Row}
use Rattle.schedule.specs.declared.groups.Row.TheVariants.{Empty, One, Mixed}

-- an ask has what those of a row have in common
abbrev pub IsIn : Row → CoreAsk → Type 0
IsIn Empty ask = ⊥
IsIn (One core block) ask = is_at core block ask ≡ true
IsIn Mixed ask = Unit {0}

-- each of the first asks has what those of its row have in common
abbrev pub AreIn : List Row → List CoreAsk → ℕ → Type 0
AreIn rows asks count = (n : ℕ) (ask : CoreAsk) → n < count → slice_get asks n ≡ Some ask → IsIn (slice_index_or rows (ask.block.0 % 16) Mixed) ask

-- the bit of each of the first asks is set in the row of its block, and no other bit there
pub record Stands (places : List ℕ) (asks : List CoreAsk) (count : ℕ) : Type 0 where
  pub each : (n : ℕ) (ask : CoreAsk) → n < count → slice_get asks n ≡ Some ask → bit_at (slice_index places (ask.block.0 % 16)) n ≡ 1
  pub inside : (row n : ℕ) → bit_at (slice_index places row) n ≡ 1 → n < count
  pub only : (row n : ℕ) (ask : CoreAsk) → bit_at (slice_index places row) n ≡ 1 → slice_get asks n ≡ Some ask → ask.block.0 % 16 ≡ row

-- the bits of the asks of some kinds
abbrev pub AreBits : HeldAsks → ℕ → List CoreAsk → Type 0
AreBits held bits asks = (n : ℕ) (ask : CoreAsk) → slice_get asks n ≡ Some ask → (bit_at bits n == 1) ≡ holds held ask.ask

-- the bits of the asks of each kind
pub record AreKinds (loads stores replaces : ℕ) (asks : List CoreAsk) : Type 0 where
  pub load : AreBits (record { load = true; store = false; replace = false }) loads asks
  pub store : AreBits (record { load = false; store = true; replace = false }) stores asks
  pub replace : AreBits (record { load = false; store = false; replace = true }) replaces asks

-- all of this is right of at most 64 asks
pub record Cover (g : Groups) (asks : List CoreAsk) : Type 0 where
  pub few : length asks ≤ 64
  pub rows : AreIn g.rows asks (length asks)
  pub stands : Stands g.places asks (length asks)
  pub kinds : AreKinds g.loads g.stores g.replaces asks
