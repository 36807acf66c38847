use Rattle.std.proofs.Common.{◌∙◌, sym}
use Rattle.std.proofs.lemmas.List.{length-set}
use Rattle.schedule.proofs.Marking.{marks-apart, marks-held}
use Rattle.schedule.proofs.asks.mark_at.Goals as goal
use Rattle.schedule.proofs.asks.mark_at.Goals.{then-is_at, else-is_at}

pub loop-number-preserved : goal.loop-number-preserved
loop-number-preserved c = elim c.if-is_at.branch [
  | then-is_at w ↦
      rw (w.unheld-is, w.set.ensures) (
        length-set c.loop-number.unheld _ _ ∙ c.loop-number.invariant.0,
        marks-held c.args.held c.args.core c.args.block c.loop-number.number c.args.asks.now c.loop-number.unheld _ _ w.holds.result
            c.loop-number-test.true c.loop-number.invariant.0 w.holds.ensures (sym c.is_at.ensures ∙ w.if-is_at.true) c.loop-number.invariant.1,
      )
  | else-is_at w ↦
      rw w.unheld-is (
        c.loop-number.invariant.0,
        marks-apart c.args.held c.args.core c.args.block c.loop-number.number c.args.asks.now c.loop-number.unheld _ _
            c.loop-number-test.true c.loop-number.invariant.0 (sym c.is_at.ensures ∙ w.if-is_at.false) c.loop-number.invariant.1,
      )
]
