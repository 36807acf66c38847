use Rattle.std.proofs.Common.{◌≡◌, ◌≤◌, length, map, vec_capacity}
use Rattle.cursors.specs.Cursors.{progress}
use Rattle.cursors.specs.Stock.{stock}
use Rattle.cursors.specs.inner.Parts.{Adds, Grows, bare, holding}
use Rattle.cursors.proofs.part.starting.push_ended.Given as goal

abbrev pub invariant-loop : goal.invariant-loop
invariant-loop g l =
    Grows (map progress l.initial.parts.items) (map progress l.parts.items)
    × Adds (holding (map stock l.initial.parts.items)) (bare l.count) (holding (map stock l.parts.items))
    × (length l.parts.items ≡ l.counter) × (l.count ≤ vec_capacity l.parts)
