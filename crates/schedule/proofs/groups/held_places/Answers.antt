use Rattle.std.proofs.Common.{◌+◌, ◌∙◌, sym, subst, arith}
use Rattle.schedule.proofs.Grouping.{BitsFirst, below-length, bits-more, bits-same}
use Rattle.schedule.proofs.groups.held_places.Goals as goal
use Rattle.schedule.proofs.groups.held_places.Goals.{then-holds, else-holds}

pub loop-number-preserved : goal.loop-number-preserved
loop-number-preserved c =
    elim c.if-holds.branch [
      | then-holds w ↦ subst (λ bits. BitsFirst c.args.held bits c.args.asks.now (c.loop-number.number + 1)) (sym w.places-is)
          (bits-more c.args.held c.loop-number.places c.args.asks.now c.loop-number.number _ (omega (arith, c.loop-number-test.true, c.requires))
          (sym c.holds.ensures ∙ w.if-holds.true) c.loop-number.invariant)
      | else-holds w ↦ subst (λ bits. BitsFirst c.args.held bits c.args.asks.now (c.loop-number.number + 1)) (sym w.places-is)
          (bits-same c.args.held c.loop-number.places c.args.asks.now c.loop-number.number _ (sym c.holds.ensures ∙ w.if-holds.false) c.loop-number.invariant)
    ]

pub returns : goal.returns
returns c n ask e =
    c.loop-number.invariant.first n ask (let low = below-length c.args.asks.now n ask e in omega (arith, low, c.loop-number-test.false)) e
