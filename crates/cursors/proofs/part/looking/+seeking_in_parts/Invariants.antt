use Rattle.std.proofs.Common.{◌≡◌, ◌+◌, ◌*◌, drop, map}
use Rattle.cursors.specs.Cursors.{progress}
use Rattle.cursors.specs.inner.Parts.{all_left, height, highest}
use Rattle.scenario.specs.Seeking.{sought}
use Rattle.scenario.specs.Taking.{offers_of_all}
use Rattle.cursors.proofs.part.looking.+seeking_in_parts.Given as goal

abbrev pub invariant-seek_in_parts-loop-part : goal.invariant-seek_in_parts-loop-part
invariant-seek_in_parts-loop-part g l =
    sought (offers_of_all (all_left (map progress (drop l.part-index l.parts)))) l.further ≡ sought (offers_of_all (all_left (map progress l.parts))) l.at

abbrev pub decreases-seek_in_part : goal.decreases-seek_in_part
decreases-seek_in_part g a = 2 * height (progress a.part.now)

abbrev pub decreases-seek_in_parts : goal.decreases-seek_in_parts
decreases-seek_in_parts g a = 2 * highest (map progress a.parts.now) + 1
