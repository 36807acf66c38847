use Rattle.std.proofs.Common.{◌≡◌, ◌+◌, ◌*◌, drop, map}
use Rattle.cursors.specs.Cursors.{progress}
use Rattle.cursors.specs.inner.Parts.{all_left, height, highest}
use Rattle.scenario.specs.Taking.{all_end}
use Rattle.cursors.proofs.part.looking.+ending_of_parts.Given as goal

abbrev pub invariant-parts_may_end-loop-part : goal.invariant-parts_may_end-loop-part
invariant-parts_may_end-loop-part g l = all_end (all_left (map progress (drop l.part-index l.parts))) ≡ all_end (all_left (map progress l.parts))

abbrev pub decreases-part_may_end : goal.decreases-part_may_end
decreases-part_may_end g a = 2 * height (progress a.part.now)

abbrev pub decreases-parts_may_end : goal.decreases-parts_may_end
decreases-parts_may_end g a = 2 * highest (map progress a.parts.now) + 1
