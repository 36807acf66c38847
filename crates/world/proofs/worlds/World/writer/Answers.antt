use Rattle.std.specs.Prelude.{option_and_then}
use Rattle.std.proofs.Common.{◌∙◌, ap}
use Rattle.machine.specs.Block.{BlockState}
use Rattle.blocks.specs.Looks.{writer_in}
use Rattle.blocks.proofs.Writers.{writer-opened}
use Rattle.world.proofs.worlds.World.writer.Goals as goal

pub returns-in-Opened : goal.returns-in-Opened
returns-in-Opened c =
    writer-opened c.args.self.now.shape.caches 0
    ∙ ap (option_and_then (λ (b : BlockState). writer_in b.lines)) (rw (c.in_ok-block.was, c.in-Opened.is) at c.find.ensures.state)
