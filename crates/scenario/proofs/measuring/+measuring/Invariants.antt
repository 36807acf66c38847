use Rattle.std.proofs.Common.{◌≡◌, ◌≤◌, ◌+◌, drop, min, max}
use Rattle.scenario.specs.Tree.{plain_all}
use Rattle.scenario.specs.Limits.{total, greatest}
use Rattle.scenario.proofs.measuring.+measuring.Given as goal

-- the sum so far, and that of the children left, is that of all
abbrev pub invariant-total_length-loop-child : goal.invariant-total_length-loop-child
invariant-total_length-loop-child g l =
    (l.length ≤ 1000001)
    × (min (l.length + total (plain_all (drop l.child-index l.children))) 1000001 ≡ min (total (plain_all l.children)) 1000001)

-- the greatest so far, and that of the children left, is that of all
abbrev pub invariant-greatest_length-loop-child : goal.invariant-greatest_length-loop-child
invariant-greatest_length-loop-child g l =
    (l.length ≤ 1000001)
    × (min (max l.length (greatest (plain_all (drop l.child-index l.children)))) 1000001 ≡ min (greatest (plain_all l.children)) 1000001)
