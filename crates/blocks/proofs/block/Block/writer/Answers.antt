use Rattle.std.proofs.Common.{arith}
use Rattle.blocks.proofs.Writers.{writer-uncounted}
use Rattle.blocks.proofs.block.Block.writer.Goals as goal

pub returns-then-writers-eq0 : goal.returns-then-writers-eq0
returns-then-writers-eq0 c = writer-uncounted c.args.self.now.state.lines 0 (omega (arith, c.writers.ensures, c.if-writers-eq0.true))
