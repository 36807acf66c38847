use Rattle.std.proofs.Common.{◌<◌, ◌∙◌, sym, arith}
use Rattle.std.proofs.lemmas.List.{length-set}
use Rattle.schedule.proofs.Grouping.{anew-all, anew-held, anew-other, anew-past}
use Rattle.schedule.proofs.groups.mark_places.Goals as goal

pub loop-rest-preserved-then-number-asks : goal.loop-rest-preserved-then-number-asks
loop-rest-preserved-then-number-asks c =
    let some : 0 < c.loop-rest.rest = omega (arith, c.loop-rest-test.true) in (
      c.loop-rest.invariant.0,
      anew-past c.args.held c.args.core c.args.block c.args.asks.now c.args.unheld.now c.loop-rest.unheld c.loop-rest.rest
          some c.loop-rest.auto.rest-fits.fits c.if-number-asks.true c.loop-rest.invariant.1,
    )

pub loop-rest-preserved-then-is_at : goal.loop-rest-preserved-then-is_at
loop-rest-preserved-then-is_at c =
    let some : 0 < c.loop-rest.rest = omega (arith, c.loop-rest-test.true) in
    rw c.set.ensures (
      length-set c.loop-rest.unheld _ _ ∙ c.loop-rest.invariant.0,
      anew-held c.args.held c.args.core c.args.block c.args.asks.now c.args.unheld.now c.loop-rest.unheld c.loop-rest.rest
          _ c.holds.result some c.loop-rest.auto.rest-fits.fits (omega (arith, c.loop-rest.invariant.0, c.if-number-asks.false)) c.holds.ensures
          (sym c.is_at.ensures ∙ c.if-is_at.true) c.loop-rest.invariant.1,
    )

pub loop-rest-preserved : goal.loop-rest-preserved
loop-rest-preserved c =
    let some : 0 < c.loop-rest.rest = omega (arith, c.loop-rest-test.true) in (
      c.loop-rest.invariant.0,
      anew-other c.args.held c.args.core c.args.block c.args.asks.now c.args.unheld.now c.loop-rest.unheld c.loop-rest.rest
          _ some c.loop-rest.auto.rest-fits.fits (sym c.is_at.ensures ∙ c.if-is_at.false) c.loop-rest.invariant.1,
    )

pub returns : goal.returns
returns c =
    anew-all c.args.held c.args.core c.args.block c.args.asks.now c.args.unheld.now c.loop-rest.unheld c.loop-rest.rest
    c.requires.long c.loop-rest.invariant.0 (omega (arith, c.loop-rest-test.false)) c.loop-rest.invariant.1
