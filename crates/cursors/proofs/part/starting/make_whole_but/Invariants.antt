use Rattle.std.proofs.Common.{◌≡◌, length, map, take}
use Rattle.cursors.specs.Cursors.{Whole, progress}
use Rattle.cursors.specs.Stock.{stock}
use Rattle.scenario.specs.Tree.{plain}
use Rattle.cursors.proofs.part.starting.make_whole_but.Given as goal

abbrev pub invariant-loop-i : goal.invariant-loop-i
invariant-loop-i g l =
    (map progress (take l.i l.parts.items) ≡ map Whole (map plain (take l.i l.children))) × (length l.parts.items ≡ length l.fn.parts.items)
    × (map stock l.parts.items ≡ map stock l.initial.parts.items)
