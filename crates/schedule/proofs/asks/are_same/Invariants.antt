use Rattle.std.proofs.Common.{◌≡◌, take}
use Rattle.schedule.proofs.asks.are_same.Given as goal

abbrev pub invariant-loop-number : goal.invariant-loop-number
invariant-loop-number l = take l.number l.asks ≡ take l.number l.others
