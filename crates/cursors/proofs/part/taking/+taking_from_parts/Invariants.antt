use Rattle.std.proofs.Common.{◌+◌, ◌*◌}
use Rattle.cursors.specs.Cursors.{progress}
use Rattle.cursors.specs.inner.Parts.{height, parts_of}
use Rattle.cursors.proofs.Going.{height_at}
use Rattle.cursors.proofs.part.taking.+taking_from_parts.Given as goal

abbrev pub decreases-take_from : goal.decreases-take_from
decreases-take_from g a = 2 * height (progress a.part.now)

abbrev pub decreases-take_from_part : goal.decreases-take_from_part
decreases-take_from_part g a = 2 * height_at (parts_of a.part.now) a.number + 1
