use Rattle.std.proofs.Common.{◌≡◌, drop, length, slice_get}
use Rattle.scenario.specs.Tree.{plain_all}
use Rattle.scenario.specs.Taking.{offers_in_turn}
use Rattle.scenario.specs.Rests.{past, rest_in_turn}
use Rattle.scenario.proofs.seeking.place_in_turn.Given as goal

abbrev pub invariant-loop-i : goal.invariant-loop-i
invariant-loop-i g l =
    (past (length (offers_in_turn (plain_all (drop l.i l.children)))) l.further ≡ past (length (offers_in_turn (plain_all l.children))) l.at)
    × (slice_get (offers_in_turn (plain_all l.children)) l.at ≡ slice_get (offers_in_turn (plain_all (drop l.i l.children))) l.further)
    × (rest_in_turn (plain_all l.children) l.at ≡ rest_in_turn (plain_all (drop l.i l.children)) l.further)
