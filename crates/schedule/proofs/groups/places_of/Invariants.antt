use Rattle.std.proofs.Common.{◌≡◌, length}
use Rattle.schedule.specs.inner.Groups.{Stands}
use Rattle.schedule.proofs.groups.places_of.Given as goal

abbrev pub invariant-loop-number : goal.invariant-loop-number
invariant-loop-number l = (length l.places ≡ 16) × Stands l.places l.asks l.number
