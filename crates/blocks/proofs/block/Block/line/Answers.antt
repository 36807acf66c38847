use Rattle.std.proofs.Common.{sym}
use Rattle.blocks.proofs.Lines.{line-kept, line-not_kept}
use Rattle.blocks.proofs.block.Block.line.Goals as goal

pub returns-in-Some : goal.returns-in-Some
returns-in-Some c = rw (← c.self.view_is) (line-kept c.self.inside.lines.items c.args.cache.0 c.in-Some.line.now (rw c.in-Some.is at c.get.ensures))

pub returns : goal.returns
returns c =
    rw (c.opened_line.ensures, c.places.ensures, ← c.self.view_is)
    (line-not_kept c.self.inside.lines.items c.args.cache.0 (sym (rw c.in_default.is at c.get.ensures)))
