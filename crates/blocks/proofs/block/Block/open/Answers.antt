use Rattle.std.proofs.Common.{arith, refl}
use Rattle.blocks.proofs.Opening.{held-opened, lines-opened, none-kept}
use Rattle.blocks.proofs.block.Block.open.Goals as goal

pub invariant_of-result : goal.invariant_of-result
invariant_of-result c =
    let lines = lines-opened c.args.caches in
    rw (c.open-3.ensures.items, c.in_ok-home.ensures.home, c.in_ok-wires.ensures.traffic, c.none.ensures, lines)
    (held-opened c.args.caches c.args.value (omega arith))

pub returns-clause-state : goal.returns-clause-state
returns-clause-state c = rw (c.open-3.ensures.items, c.in_ok-home.ensures.home, c.in_ok-wires.ensures.traffic, lines-opened c.args.caches) refl

pub returns-clause-lines : goal.returns-clause-lines
returns-clause-lines c = rw (c.open-3.ensures.items) (none-kept c.args.caches)
