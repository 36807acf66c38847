use Rattle.std.proofs.Common.{Some, ◌+◌, ◌∙◌, ap, slice_get, sym, arith}
use Rattle.std.proofs.lemmas.Grind.{common_steps}
use Rattle.std.specs.Option.{option_map}
use Rattle.rows.specs.Flags.{set_count}
use Rattle.schedule.specs.declared.choosing.Choice.TheVariants.{Offer}
use Rattle.schedule.proofs.Marking.{kth-of-free, none-of-busy, not-below, past-free}
use Rattle.schedule.proofs.asks.Asks.find.Goals as goal

pub returns-then-not-free-clause-kth : goal.returns-then-not-free-clause-kth
returns-then-not-free-clause-kth c first =
    rw (← c.self.view_is)
    (ap (λ cs. slice_get cs c.args.k) (sym (none-of-busy c.args.cores.now c.in-Some.core c.self.inside.core first c.self.inside.asks.items
    c.self.inside.unheld c.self.invariant.0 c.in-Some.is (sym c.free.ensures ∙ c.if-not-free.true))))

pub returns-in_err-at-in-Some-clause-kth : goal.returns-in_err-at-in-Some-clause-kth
returns-in_err-at-in-Some-clause-kth c first =
    rw (← c.self.view_is)
    (ap (option_map (λ found. Offer (first + found.0) found.1)) c.from_residual.ensures
    ∙ past-free c.args.cores.now c.in-Some.core c.self.inside.core first c.args.k c.self.inside.asks.items c.self.inside.unheld c.self.invariant.0
    c.in-Some.is (sym c.free.ensures ∙ c.if-not-free.false) (not-below c.args.k (set_count c.self.inside.unheld) c.in_err-at-in-Some.ensures.found.1))

pub returns-in_ok-at-in-Some-clause-kth : goal.returns-in_ok-at-in-Some-clause-kth
returns-in_ok-at-in-Some-clause-kth c first =
    rw (← c.self.view_is)
    (ap (λ ask. Some (Offer (first + c.in_ok-at-in-Some.field-0) ask)) c.index.ensures
    ∙ kth-of-free c.args.cores.now c.in-Some.core c.self.inside.core first c.args.k c.in_ok-at-in-Some.field-0 c.self.inside.asks.items
    c.self.inside.unheld c.index.result.now c.self.invariant.0 c.in-Some.is (sym c.free.ensures ∙ c.if-not-free.false) c.in_ok-at-in-Some.ensures.place)

pub overflow_cast-at : goal.overflow_cast-at
overflow_cast-at c = grind (arith, common_steps)
