use Rattle.std.proofs.Common.{take}
use Rattle.world.specs.Keeping.{KeepsOthers}
use Rattle.world.specs.Runs.{IsRun}
use Rattle.world.proofs.worlds.World.advance_all.Given as goal

abbrev pub invariant-loop-i : goal.invariant-loop-i
invariant-loop-i l =
    IsRun l.fn.self (take l.i l.steps) l.fn.outcomes.items l.self l.outcomes.items
    × KeepsOthers l.fn.self l.steps l.self
    × KeepsOthers l.fn.self (take l.i l.steps) l.self
