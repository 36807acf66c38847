use Rattle.world.proofs.Visiting.{kept-already, stays-or, steps-or}
use Rattle.world.proofs.at_block.step_at.Goals as goal

pub returns-in-Some-clause-ok : goal.returns-in-Some-clause-ok
returns-in-Some-clause-ok c =
    let there = rw c.in-Some.is at c.get_mut.follows in
    steps-or c.args.controllers.now c.args.caches c.args.value c.args.number c.args.step c.args.blocks.now.items c.args.blocks.now.items _ c.made_at.new.block
    c.made_at.result
    (kept-already c.args.controllers.now c.args.caches c.args.value c.args.number c.args.step c.args.blocks.now.items _ c.requires.below there)
    c.made_at.ensures.ok

pub returns-in-Some-clause-err : goal.returns-in-Some-clause-err
returns-in-Some-clause-err c =
    let there = rw c.in-Some.is at c.get_mut.follows in
    stays-or c.args.controllers.now c.args.caches c.args.value c.args.number c.args.step c.args.blocks.now.items c.args.blocks.now.items _ c.made_at.new.block
    c.made_at.result
    (kept-already c.args.controllers.now c.args.caches c.args.value c.args.number c.args.step c.args.blocks.now.items _ c.requires.below there)
    c.made_at.ensures.err c.made_at.ensures.succeeds
