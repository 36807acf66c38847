use Rattle.std.proofs.Common.{arith}
use Rattle.world.proofs.Asked.{ask-nowhere, ask-there}
use Rattle.world.proofs.worlds.World.place_asked.Goals as goal

pub returns-then-cache-caches : goal.returns-then-cache-caches
returns-then-cache-caches c a =
    rw (← c.self.view_is)
    (ask-nowhere c.self.inside.shape _ c.args.cache c.args.block a c.self.invariant.shaped
    (λ both. absurd (omega (arith, both.0, c.caches.ensures.value, c.if-cache-caches.true))))

pub returns-then-block-blocks : goal.returns-then-block-blocks
returns-then-block-blocks c a =
    rw (← c.self.view_is)
    (ask-nowhere c.self.inside.shape _ c.args.cache c.args.block a c.self.invariant.shaped
    (λ both. absurd (omega (arith, both.1, c.blocks-2.ensures.value, c.if-block-blocks.true))))

pub returns : goal.returns
returns c a =
    rw (← c.self.view_is)
    (ask-there c.self.inside.shape _ c.args.cache c.args.block a c.self.invariant.shaped
    (omega (arith, c.caches.ensures.value, c.if-cache-caches.false)) (omega (arith, c.blocks-2.ensures.value, c.if-block-blocks.false)))
