use Rattle.std.proofs.Common.{◌≡◌, ◌<◌, ℕ, Some, slice_get, true}
use Rattle.world.specs.inner.Found.{is_quiet_kept}
use Rattle.world.specs.inner.Holding.{kept_at}
use Rattle.world.proofs.worlds.World.empty.Given as goal

abbrev pub invariant-loop-index : goal.invariant-loop-index
invariant-loop-index l = (j at : ℕ) → j < l.index → slice_get l.self-inside.blocks.keys j ≡ Some at →
    is_quiet_kept (kept_at l.self-inside.blocks.items at) ≡ true
