use Rattle.std.proofs.Common.{arith}
use Rattle.blocks.specs.inner.Lined.{lines_of}
use Rattle.blocks.proofs.Writers.{least-all, least-more, writer-kept}
use Rattle.blocks.proofs.block.access.least_writer.Goals as goal

pub loop-index-init : goal.loop-index-init
loop-index-init c = record { writes = tt; first = λ k at low key e. absurd (omega arith) }

pub loop-index-preserved : goal.loop-index-preserved
loop-index-preserved c =
    rw (c.lesser-least.ensures, c.nth_writer.ensures)
    (least-more (lines_of c.args.lines.now.items) c.args.lines.now.keys c.loop-index.index c.loop-index.least c.loop-index.invariant)

pub returns : goal.returns
returns c =
    let rows = c.args.lines.now in
    least-all (lines_of rows.items) rows.keys c.loop-index.index c.loop-index.least c.loop-index.invariant
    (omega (arith, c.held-index-end.ensures.count, c.loop-index-test.false))
    (λ at e. c.held-index-end.ensures.touched.all at (writer-kept rows.items at e))
