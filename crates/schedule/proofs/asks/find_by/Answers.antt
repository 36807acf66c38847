use Rattle.std.proofs.Common.{◌<◌, ◌∙◌, sym, arith}
use Rattle.std.proofs.lemmas.Bool.Decides.{nat_tests}
use Rattle.schedule.proofs.Marking.{passed-not, passed-put}
use Rattle.schedule.proofs.asks.find_by.Goals as goal
use Rattle.schedule.proofs.asks.find_by.Goals.{then-is_ready+else-left-eq0, else-is_ready}

pub loop-number-preserved : goal.loop-number-preserved
loop-number-preserved c = elim c.if-is_ready.branch [
  | then-is_ready+else-left-eq0 w ↦
      let some : 0 < c.loop-number.left = grind (arith, nat_tests) in
      rw w.left-is
      (λ first. passed-put c.args.cores.now first c.loop-number.number c.loop-number.left c.args.asks.now c.args.unheld.now _ c.loop-number-test.true
      c.requires.long (sym c.is_ready.ensures ∙ w.if-is_ready.true) some ∙ c.loop-number.invariant first)
  | else-is_ready w ↦
      rw w.left-is
      (λ first. passed-not c.args.cores.now first c.loop-number.number c.loop-number.left c.args.asks.now c.args.unheld.now _ c.loop-number-test.true
      c.requires.long (sym c.is_ready.ensures ∙ w.if-is_ready.false) ∙ c.loop-number.invariant first)
]
