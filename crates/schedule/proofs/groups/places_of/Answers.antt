use Rattle.std.proofs.Common.{◌∙◌, refl, arith}
use Rattle.std.proofs.lemmas.List.{length-set}
use Rattle.schedule.proofs.Grouping.{stands-more}
use Rattle.schedule.proofs.groups.places_of.Goals as goal

pub loop-number-preserved : goal.loop-number-preserved
loop-number-preserved c =
    let places = c.loop-number.places in (
      length-set places c.row_of-row.result _ ∙ c.loop-number.invariant.0,
      stands-more places c.args.asks.now c.loop-number.number c.row_of-row.result _ _
          (omega (arith, c.loop-number-test.true, c.requires)) c.loop-number.invariant.0 c.row_of-row.ensures refl c.loop-number.invariant.1,
    )
