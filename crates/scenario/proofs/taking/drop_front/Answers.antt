use Rattle.std.proofs.Common.{ap, arith, drop, refl, ◌∙◌}
use Rattle.std.proofs.lemmas.Grind.{common_steps}
use Rattle.std.proofs.lemmas.List.{drop-drop}
use Rattle.scenario.proofs.taking.drop_front.Goals as goal

pub loop-preserved : goal.loop-preserved
loop-preserved g c = c.remove.ensures.by_index.2 ∙ (ap (drop 1) c.loop.invariant ∙ drop-drop 1 c.loop.counter c.args.items.now.items)

pub returns : goal.returns
returns g c = grind (arith, common_steps)

pub loop-init : goal.loop-init
loop-init g c = refl

pub loop-smaller : goal.loop-smaller
loop-smaller g c = omega arith
