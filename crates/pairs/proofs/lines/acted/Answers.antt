use Rattle.std.proofs.Common.{◌∙◌, ◌+◌, ap, sym, subst, drop}
use Rattle.pairs.specs.declared.pair.Pair.{Pair}
use Rattle.pairs.specs.Marking.{IsMarked}
use Rattle.pairs.specs.inner.Following.{few_pair}
use Rattle.pairs.proofs.LineActing.{few_pair-line_acts, keeps-line_acted, line_acts-drop, marked-kept}
use Rattle.pairs.proofs.lines.acted.Goals as goal

pub returns-then-not-is_few-clause-pair : goal.returns-then-not-is_few-clause-pair
returns-then-not-is_few-clause-pair c =
    let to = c.args.to in
    let fresh = c.args.fresh in
    let step = line_acts-drop to fresh _ c.loop-action.action-index _ c.loop-action.acted c.act.new.pair c.loop-action-test.true c.act.ensures in
    sym (ap few_pair (sym c.loop-action.invariant.acts ∙ step)
    ∙ few_pair-line_acts to fresh (drop (c.loop-action.action-index + 1) c.args.actions.now) c.act.new.pair (sym c.if-not-is_few.ensures))

pub loop-action-preserved : goal.loop-action-preserved
loop-action-preserved c = record {
  acts = sym (line_acts-drop c.args.to c.args.fresh _ c.loop-action.action-index _ c.loop-action.acted c.act.new.pair c.loop-action-test.true c.act.ensures)
      ∙ c.loop-action.invariant.acts;
  few = sym c.if-not-is_few.ensures;
  marked = subst (λ (p : Pair). IsMarked p) (sym c.act.ensures)
      (marked-kept c.loop-action.acted _ (keeps-line_acted c.args.to c.args.fresh _ c.loop-action.acted) c.loop-action.invariant.marked);
}
