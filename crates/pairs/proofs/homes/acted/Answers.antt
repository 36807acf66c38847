use Rattle.std.proofs.Common.{◌∙◌, ◌+◌, ap, sym, subst, drop}
use Rattle.pairs.specs.declared.steps.Scene.{Scene}
use Rattle.pairs.specs.Marking.{IsMarked}
use Rattle.pairs.specs.inner.Following.{few_scene}
use Rattle.pairs.proofs.HomeActing.{few_scene-home_acts, home_acts-drop, marked-home_acted}
use Rattle.pairs.proofs.homes.acted.Goals as goal

pub returns-then-not-is_few-clause-scene : goal.returns-then-not-is_few-clause-scene
returns-then-not-is_few-clause-scene c =
    let asked = c.args.asked in
    let value = c.args.value in
    let step = home_acts-drop asked value _ c.loop-action.action-index _ c.loop-action.acted c.act.new.scene c.loop-action-test.true c.act.ensures in
    sym (ap few_scene (sym c.loop-action.invariant.acts ∙ step)
    ∙ few_scene-home_acts asked value (drop (c.loop-action.action-index + 1) c.args.actions.now) c.act.new.scene (sym c.if-not-is_few.ensures))

pub loop-action-preserved : goal.loop-action-preserved
loop-action-preserved c = record {
  acts = sym (home_acts-drop c.args.asked c.args.value _ c.loop-action.action-index _ c.loop-action.acted c.act.new.scene c.loop-action-test.true c.act.ensures)
      ∙ c.loop-action.invariant.acts;
  few = sym c.if-not-is_few.ensures;
  marked = subst (λ (s : Scene). IsMarked s.pair) (sym c.act.ensures)
      (marked-home_acted c.args.asked c.args.value _ c.loop-action.acted c.loop-action.invariant.marked);
}
