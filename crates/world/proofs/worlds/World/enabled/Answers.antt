use Rattle.std.proofs.Common.{◌∙◌, arith}
use Rattle.std.proofs.lemmas.Grind.{common_steps, elements}
use Rattle.std.proofs.lemmas.List.{take_all}
use Rattle.world.specs.Enabled.{enabled_steps}
use Rattle.world.proofs.Delivering.{taken-more}
use Rattle.world.proofs.worlds.World.enabled.Goals as goal

pub loop-k-preserved : goal.loop-k-preserved
loop-k-preserved c =
    taken-more (enabled_steps c.args.self.now.tables c.args.self.now.state) c.loop-k.steps.items c.push.new.self.items c.loop-k.k c.in-Some.step
    (omega (arith, c.loop-k-test.true, c.enabled_count-k-end.ensures.count)) c.loop-k.invariant c.in-Some.ensures (grind (arith, common_steps))

pub returns : goal.returns
returns c =
    c.loop-k.invariant
    ∙ take_all c.loop-k.k (enabled_steps c.args.self.now.tables c.args.self.now.state) (omega (arith, c.loop-k-test.false, c.enabled_count-k-end.ensures.count))

pub loop-k-init : goal.loop-k-init
loop-k-init c = grind (arith, common_steps)

pub unreachable-unreachable : goal.unreachable-unreachable
unreachable-unreachable c = grind (arith, common_steps)

pub loop-k-smaller : goal.loop-k-smaller
loop-k-smaller c = grind (arith, common_steps)

pub unreachable-requires : goal.unreachable-requires
unreachable-requires c = grind (arith, elements)
