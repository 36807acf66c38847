use Rattle.std.proofs.Common.{Some, ap, sym, ◌∙◌}
use Rattle.std.proofs.lemmas.Option.{slice_get-get_or}
use Rattle.scenario.proofs.Sought.{found-here, passed-here}
use Rattle.scenario.proofs.seeking.find_among.Goals as goal

pub returns-in-Ok-clause-ok : goal.returns-in-Ok-clause-ok
returns-in-Ok-clause-ok g c =
    let at = slice_get-get_or c.args.items.now c.loop-i.i c.index-items-i.result c.loop-i-test.true ∙ ap Some (sym c.index-items-i.is) in
    found-here g.S.HasOffers.tree c.args.items.now c.args.at c.loop-i.i c.loop-i.further c.index-items-i.result c.in-Ok.field-0 at
    (sym c.seek.ensures ∙ c.in-Ok.is) c.loop-i.invariant

pub loop-i-preserved : goal.loop-i-preserved
loop-i-preserved g c =
    let at = slice_get-get_or c.args.items.now c.loop-i.i c.index-items-i.result c.loop-i-test.true ∙ ap Some (sym c.index-items-i.is) in
    passed-here g.S.HasOffers.tree c.args.items.now c.args.at c.loop-i.i c.loop-i.further c.in-Err.behind c.index-items-i.result at
    (sym c.seek.ensures ∙ c.in-Err.is) c.loop-i.invariant
