use Rattle.std.proofs.Common.{◌∙◌, ap, length, arith}
use Rattle.base.proofs.Spelled.{pushed-more}
use Rattle.base.proofs.controller.spelling.push_actions.Goals as goal

pub loop-action-preserved : goal.loop-action-preserved
loop-action-preserved g c =
    let is = c.as_bytes.ensures.value ∙ c.name.ensures.name in (
      pushed-more g.A.Listed.spelling c.args.actions.now c.loop-action.action-index _ c.args.text.now c.loop-action.text _ c.as_bytes.result.now
          (omega arith) c.loop-action.invariant.0 c.push_word.ensures.text (is ∙ ap g.A.Listed.spelling c.action-item.is),
      omega (arith, c.name.ensures.short, ap (λ l. length l) is, c.push_word.ensures.count, c.loop-action.invariant.1),
    )
