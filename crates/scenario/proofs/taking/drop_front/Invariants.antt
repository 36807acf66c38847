use Rattle.std.proofs.Common.{◌≡◌, drop}
use Rattle.scenario.proofs.taking.drop_front.Given as goal

abbrev pub invariant-loop : goal.invariant-loop
invariant-loop g l = l.items.items ≡ drop l.counter l.fn.items.items
