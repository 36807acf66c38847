use Rattle.std.proofs.Common.{◌∙◌, ap, sym, arith, true, false}
use Rattle.std.proofs.lemmas.Option.{get_or_from_slice_get}
use Rattle.tables.specs.CellPlaces.{all_places}
use Rattle.record.specs.Text.{is_changed}
use Rattle.record.proofs.Changed.{count-more}
use Rattle.record.proofs.Standing.{all-stand, stand-more}
use Rattle.record.proofs.writing.count_changed.Goals as goal
use Rattle.record.proofs.writing.count_changed.Goals.{then-is_changed, else-is_changed}

pub loop-number-preserved : goal.loop-number-preserved
loop-number-preserved c =
    let at =
    ap (is_changed c.args.tables.now)
    (get_or_from_slice_get all_places c.loop-number.number c.with_number.result c.with_number.result c.with_number.ensures)
    ∙ sym c.is_changed.ensures.changed in
    let stand =
    stand-more c.args.tables.now c.loop-number.number c.with_number.result
    c.with_number.ensures c.is_changed.ensures.fits c.is_changed.ensures.whole c.loop-number.invariant.2 in
    elim c.if-is_changed.branch [
      | then-is_changed w ↦ (
        let more = count-more c.args.tables.now all_places c.loop-number.number c.with_number.result true (omega arith)
            (at ∙ w.if-is_changed.true) in omega (arith, more, w.count-is, c.loop-number.invariant.0),
        omega (arith, w.count-is),
        stand,
      )
      | else-is_changed w ↦ (
        let more = count-more c.args.tables.now all_places c.loop-number.number c.with_number.result false (omega arith)
            (at ∙ w.if-is_changed.false) in omega (arith, more, w.count-is, c.loop-number.invariant.0),
        omega (arith, w.count-is),
        stand,
      )
    ]

pub returns-clause-whole : goal.returns-clause-whole
returns-clause-whole c = all-stand c.args.tables.now (λ k low. c.loop-number.invariant.2 k (omega (arith, low)))
