use Rattle.std.proofs.Common.{◌∙◌, ap, length, sym}
use Rattle.schedule.proofs.Marking.{count-free, none-of-busy}
use Rattle.schedule.proofs.asks.Asks.count.Goals as goal

pub returns-then-free : goal.returns-then-free
returns-then-free c =
    rw (← c.self.view_is)
    (count-free c.args.cores.now c.in-Some.core c.self.inside.core c.self.inside.asks.items c.self.inside.unheld c.ones.result c.self.invariant.0
    c.in-Some.is (sym c.free.ensures ∙ c.if-free.true) c.ones.ensures)

pub returns-else-free : goal.returns-else-free
returns-else-free c =
    rw (← c.self.view_is)
    (ap length (sym (none-of-busy c.args.cores.now c.in-Some.core c.self.inside.core 0 c.self.inside.asks.items c.self.inside.unheld c.self.invariant.0
    c.in-Some.is (sym c.free.ensures ∙ c.if-free.false))))
