use Rattle.std.proofs.Common.{◌≡◌}
use Rattle.world.proofs.Openings.{AreReset}
use Rattle.world.proofs.resetting.reset_all.Given as goal

abbrev pub invariant-loop-index : goal.invariant-loop-index
invariant-loop-index l =
    (l.blocks.keys ≡ l.fn.blocks.keys) × AreReset l.opening l.fn.blocks.keys l.index l.fn.blocks.items l.blocks.items
