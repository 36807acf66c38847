use Rattle.std.proofs.Common.{◌≡◌, ◌∙◌, arith, length, refl}
use Rattle.std.proofs.lemmas.List.{length-set, with_items_is}
use Rattle.network.proofs.Written.{behind-end, behind-next}
use Rattle.network.proofs.wire.unmark_each.Goals as goal

pub loop-found-preserved : goal.loop-found-preserved
loop-found-preserved g c = record {
  sent =
      behind-next c.found-item.result _ c.args.marked.now.items c.loop-found.found-items 0 c.loop-found.found-index _ (omega arith)
      (omega (arith, c.loop-found.invariant.count, c.loop-found-test.true, c.loop-found.auto.found-items)) c.loop-found.invariant.sent refl;
  count = length-set c.loop-found.found-items c.loop-found.found-index _ ∙ c.loop-found.invariant.count;
}

pub returns-clause-sent : goal.returns-clause-sent
returns-clause-sent g c =
    let long : length c.loop-found.found-items ≡ c.args.marked.now.len = omega (arith, c.loop-found.invariant.count, c.args.marked.now.ok.0) in
    with_items_is c.args.marked.now c.loop-found.found-items long
    ∙ c.loop-found.invariant.sent
    ∙ behind-end _ c.args.marked.now.items 0 c.loop-found.found-index
    (omega (arith, c.loop-found.invariant.count, c.loop-found-test.false, c.loop-found.auto.found-items))
