use Rattle.blocks.specs.inner.Lined.{lines_of}
use Rattle.blocks.proofs.Writers.{IsLeastOf}
use Rattle.blocks.proofs.block.access.least_writer.Given as goal

abbrev pub invariant-loop-index : goal.invariant-loop-index
invariant-loop-index l = IsLeastOf (lines_of l.lines.items) l.lines.keys l.index l.least
