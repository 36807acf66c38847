use Rattle.std.proofs.Common.{◌<◌, ◌∙◌, arith, length}
use Rattle.std.proofs.lemmas.List.{length-set}
use Rattle.schedule.proofs.Placing.{none-placed, placed-before, placed-more}
use Rattle.schedule.proofs.places.place_all.Goals as goal

pub loop-number-init : goal.loop-number-init
loop-number-init c = (c.requires.rows, none-placed _ c.args.asks.now)

pub loop-number-preserved : goal.loop-number-preserved
loop-number-preserved c =
    let many = c.loop-number.invariant.0 in
    let row = c.row_of.ensures in
    let low : c.row_of.result < length c.loop-number.rows.items = grind arith in (
      length-set c.loop-number.rows.items c.row_of.result c.push.new.self ∙ many,
      placed-more c.loop-number.rows.items c.args.asks.now c.loop-number.number c.row_of.result _ c.index_mut.result.now c.push.new.self low
          c.index_mut.ensures.value c.in_ok-push.ensures.items c.row_of.ensures c.loop-number.invariant.1,
    )

pub returns-clause-placed : goal.returns-clause-placed
returns-clause-placed c =
    placed-before _ c.args.asks.now c.loop-number.number (let end = c.loop-number-test.false in omega (arith, end)) c.loop-number.invariant.1
