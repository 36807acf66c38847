use Rattle.std.proofs.Common.{◌≡◌, ◌+◌, ◌*◌, ◌++◌, drop, length, map, take}
use Rattle.cursors.specs.Cursors.{progress}
use Rattle.cursors.specs.inner.Parts.{all_left, height, highest}
use Rattle.scenario.specs.Taking.{offers_of_all}
use Rattle.cursors.proofs.part.looking.+offering_of_parts.Given as goal

abbrev pub invariant-offers_of_parts-loop-part : goal.invariant-offers_of_parts-loop-part
invariant-offers_of_parts-loop-part g l =
    (l.out.items ++ offers_of_all (all_left (map progress (drop l.part-index l.parts)))
    ≡ l.initial.out.items ++ offers_of_all (all_left (map progress l.parts)))
    × (take (length l.initial.out.items) l.out.items ≡ l.initial.out.items)

abbrev pub decreases-offers_of_part : goal.decreases-offers_of_part
decreases-offers_of_part g a = 2 * height (progress a.part.now)

abbrev pub decreases-offers_of_parts : goal.decreases-offers_of_parts
decreases-offers_of_parts g a = 2 * highest (map progress a.parts.now) + 1
