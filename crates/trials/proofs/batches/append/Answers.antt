use Rattle.std.proofs.Common.{◌≤◌, ◌∙◌, sym, subst}
use Rattle.trials.specs.Series.{planned}
use Rattle.trials.specs.Terms.{Plan}
use Rattle.trials.specs.Trial.{IsResult}
use Rattle.trials.proofs.Results.{results-more}
use Rattle.trials.proofs.batches.append.Goals as goal

pub loop-number-preserved : goal.loop-number-preserved
loop-number-preserved g c =
    let inv = c.loop-number.invariant in
    let plan = planned c.args.series.now in (
      c.result.ensures.plan ∙ inv.0,
      subst (λ x. c.args.n ≤ x) (sym c.push_reserved.ensures.capacity) inv.1,
      results-more plan.terms plan.tree c.loop-number.number c.loop-number.results.items c.push_reserved.new.self.items c.in-Ok.made inv.2
          (subst (λ (p : Plan). IsResult p.terms p.tree c.loop-number.number c.in-Ok.made) inv.0 c.in-Ok.ensures.result)
          c.push_reserved.ensures.items,
    )
