use Rattle.std.proofs.Common.{◌∙◌, sym, arith}
use Rattle.schedule.proofs.Marking.{by-few, counted-not, counted-put}
use Rattle.schedule.proofs.asks.count_by.Goals as goal
use Rattle.schedule.proofs.asks.count_by.Goals.{then-is_ready, else-is_ready}

pub overflow_add-count : goal.overflow_add-count
overflow_add-count c =
    let most = by-few c.args.cores.now 0 c.args.asks.now c.args.unheld.now in
    let more = counted-put c.args.cores.now c.loop-number.number c.loop-number.count _ c.args.asks.now c.args.unheld.now _ c.loop-number-test.true
    c.requires.long (sym c.is_ready.ensures ∙ c.if-is_ready.true) c.loop-number.invariant in
    let few = c.requires.short in
    omega arith

pub loop-number-preserved : goal.loop-number-preserved
loop-number-preserved c = elim c.if-is_ready.branch [
  | then-is_ready w ↦
      rw w.count-is
      (counted-put c.args.cores.now c.loop-number.number c.loop-number.count _ c.args.asks.now c.args.unheld.now _ c.loop-number-test.true
      c.requires.long (sym c.is_ready.ensures ∙ w.if-is_ready.true) c.loop-number.invariant)
  | else-is_ready w ↦
      rw w.count-is
      (counted-not c.args.cores.now c.loop-number.number c.loop-number.count _ c.args.asks.now c.args.unheld.now _ c.loop-number-test.true
      c.requires.long (sym c.is_ready.ensures ∙ w.if-is_ready.false) c.loop-number.invariant)
]
