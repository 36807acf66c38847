use Rattle.std.proofs.Common.{◌≡◌, ◌++◌, drop, length, map, take}
use Rattle.schedule.specs.Listed.{is_unheld}
use Rattle.schedule.proofs.asks.mark_each.Given as goal

abbrev pub invariant-loop-number : goal.invariant-loop-number
invariant-loop-number l =
    (length l.unheld ≡ length l.asks)
    × (take l.number l.unheld ++ map (is_unheld l.world.tables l.world.state) (drop l.number l.asks) ≡ map (is_unheld l.world.tables l.world.state) l.asks)
