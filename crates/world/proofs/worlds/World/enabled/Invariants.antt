use Rattle.std.proofs.Common.{◌≡◌, take}
use Rattle.world.specs.Enabled.{enabled_steps}
use Rattle.world.proofs.worlds.World.enabled.Given as goal

abbrev pub invariant-loop-k : goal.invariant-loop-k
invariant-loop-k l = l.steps.items ≡ take l.k (enabled_steps l.self.tables l.self.state)
