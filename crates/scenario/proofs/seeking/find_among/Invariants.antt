use Rattle.std.proofs.Common.{◌≡◌, ◌+◌, map}
use Rattle.scenario.proofs.Sought.{before}
use Rattle.scenario.proofs.seeking.find_among.Given as goal

abbrev pub invariant-loop-i : goal.invariant-loop-i
invariant-loop-i g l = l.at ≡ before (map g.S.HasOffers.tree l.items) l.i + l.further
