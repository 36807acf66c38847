use Rattle.std.proofs.Common.{◌≡◌, ◌++◌, drop, length, take}
use Rattle.scenario.specs.Tree.{plain_all}
use Rattle.scenario.specs.Taking.{offers_in_turn, offers_of_all}
use Rattle.scenario.proofs.looking.+offering.Given as goal

abbrev pub invariant-offers_in_turn-loop-child : goal.invariant-offers_in_turn-loop-child
invariant-offers_in_turn-loop-child g l =
    (l.out.items ++ offers_in_turn (plain_all (drop l.child-index l.children)) ≡ l.initial.out.items ++ offers_in_turn (plain_all l.children))
    × (take (length l.initial.out.items) l.out.items ≡ l.initial.out.items)

abbrev pub invariant-offers_of_all-loop-child : goal.invariant-offers_of_all-loop-child
invariant-offers_of_all-loop-child g l =
    (l.out.items ++ offers_of_all (plain_all (drop l.child-index l.children)) ≡ l.initial.out.items ++ offers_of_all (plain_all l.children))
    × (take (length l.initial.out.items) l.out.items ≡ l.initial.out.items)
