use Rattle.std.proofs.Common.{◌∙◌, ap, sym, slice_get}
use Rattle.machine.specs.Block.{BlockState, opened_block}
use Rattle.blocks.specs.Marking.{ask_stalls}
use Rattle.blocks.proofs.Holding.{held-ask}
use Rattle.blocks.proofs.block.looking.is_held_opened.Goals as goal

pub returns-in-Ask : goal.returns-in-Ask
returns-in-Ask c value =
    let b : BlockState = opened_block c.args.caches value in
    rw c.in-Ask.is
    (c.stalls_ask.ensures ∙ ap (ask_stalls c.args.tables.now.cache c.in-Ask.ask) c.opened_line.ensures
    ∙ sym (held-ask c.args.tables.now.cache c.in-Ask.cache c.in-Ask.ask (slice_get b.lines c.in-Ask.cache.0) b))
