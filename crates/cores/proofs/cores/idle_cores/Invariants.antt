use Rattle.std.proofs.Common.{◌≡◌, replicate}
use Rattle.cores.specs.Cores.{idle}
use Rattle.cores.proofs.cores.idle_cores.Given as goal

abbrev pub invariant-loop : goal.invariant-loop
invariant-loop l = l.cores.items ≡ replicate l.counter idle
