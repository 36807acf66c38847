use Rattle.std.proofs.Common.{◌∙◌, sym, arith}
use Rattle.std.proofs.lemmas.List.{length-set}
use Rattle.schedule.proofs.Placing.{anew-all, anew-held, anew-none, anew-other, anew-past}
use Rattle.schedule.proofs.places.mark_listed.Goals as goal
use Rattle.schedule.proofs.places.mark_listed.Goals.{then-is_at, else-is_at}

pub loop-place-init : goal.loop-place-init
loop-place-init c = (c.requires.long, anew-none c.args.held c.args.core c.args.block c.args.asks.now c.args.unheld.now c.args.places.now)

pub loop-place-preserved-then-number-asks : goal.loop-place-preserved-then-number-asks
loop-place-preserved-then-number-asks c = (
  c.loop-place.invariant.0,
  anew-past c.args.held c.args.core c.args.block c.args.asks.now c.args.unheld.now c.loop-place.unheld c.args.places.now c.loop-place.place-index
      c.if-number-asks.true c.loop-place.invariant.1,
)

pub set-requires : goal.set-requires
set-requires c = let inside = c.if-number-asks.false in let many = c.loop-place.invariant.0 in omega (arith, inside, many)

pub loop-place-preserved : goal.loop-place-preserved
loop-place-preserved c = elim c.if-is_at.branch [
  | then-is_at w ↦
      rw w.unheld-is (rw w.set.ensures (
        length-set c.loop-place.unheld _ _ ∙ c.loop-place.invariant.0,
        anew-held c.args.held c.args.core c.args.block c.args.asks.now c.args.unheld.now c.loop-place.unheld c.args.places.now c.loop-place.place-index
            _ w.holds.result (let inside = c.if-number-asks.false in let many = c.loop-place.invariant.0 in omega (arith, inside, many)) w.holds.ensures
            (sym c.is_at.ensures ∙ w.if-is_at.true) c.loop-place.invariant.1,
      ))
  | else-is_at w ↦
      rw w.unheld-is (
        c.loop-place.invariant.0,
        anew-other c.args.held c.args.core c.args.block c.args.asks.now c.args.unheld.now c.loop-place.unheld c.args.places.now c.loop-place.place-index
            _ (sym c.is_at.ensures ∙ w.if-is_at.false) c.loop-place.invariant.1,
      )
]

pub returns : goal.returns
returns c =
    anew-all c.args.held c.args.core c.args.block c.args.asks.now c.args.unheld.now c.loop-place.unheld c.args.places.now c.loop-place.place-index
    c.requires.long c.loop-place.invariant.0 (let end = c.loop-place-test.false in omega (arith, end)) c.requires.there c.loop-place.invariant.1
