use Rattle.std.proofs.Common.{◌≡◌, length}
use Rattle.floor.proofs.crews.flags_for.Given as goal

abbrev pub invariant-loop : goal.invariant-loop
invariant-loop l = length l.flags.items ≡ l.counter
