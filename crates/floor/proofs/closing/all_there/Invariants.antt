use Rattle.std.proofs.Common.{◌<◌, ℕ}
use Rattle.floor.specs.Closing.{IsThere}
use Rattle.floor.proofs.closing.all_there.Given as goal

abbrev pub invariant-loop-number : goal.invariant-loop-number
invariant-loop-number g l = (k : ℕ) → k < l.number → IsThere l.seats k
