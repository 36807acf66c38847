use Rattle.std.proofs.Common.{◌≡◌, drop}
use Rattle.scenario.specs.Tree.{plain_all}
use Rattle.scenario.specs.Taking.{offers_in_turn, offers_of_all}
use Rattle.scenario.specs.Seeking.{sought}
use Rattle.scenario.proofs.seeking.+seeking.Given as goal

abbrev pub invariant-seek_in_turn-loop-child : goal.invariant-seek_in_turn-loop-child
invariant-seek_in_turn-loop-child g l =
    sought (offers_in_turn (plain_all (drop l.child-index l.children))) l.further ≡ sought (offers_in_turn (plain_all l.children)) l.at

abbrev pub invariant-seek_in_all-loop-child : goal.invariant-seek_in_all-loop-child
invariant-seek_in_all-loop-child g l =
    sought (offers_of_all (plain_all (drop l.child-index l.children))) l.further ≡ sought (offers_of_all (plain_all l.children)) l.at
