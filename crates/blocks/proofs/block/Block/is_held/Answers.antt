use Rattle.std.proofs.Common.{◌∙◌, ap, sym, slice_get}
use Rattle.blocks.specs.Marking.{ask_stalls}
use Rattle.blocks.proofs.Holding.{held-ask}
use Rattle.blocks.proofs.block.Block.is_held.Goals as goal

pub returns-in-Ask : goal.returns-in-Ask
returns-in-Ask c =
    rw c.in-Ask.is
    (c.stalls_ask.ensures ∙ ap (ask_stalls c.args.tables.now.cache c.in-Ask.ask) c.line.ensures
    ∙ sym (held-ask c.args.tables.now.cache c.in-Ask.cache c.in-Ask.ask (slice_get c.args.self.now.state.lines c.in-Ask.cache.0) c.args.self.now.state))
