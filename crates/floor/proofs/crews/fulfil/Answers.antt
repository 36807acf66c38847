use Rattle.std.proofs.Common.{Some, IfOk, subst, sym}
use Rattle.floor.specs.inner.Wishes.{Meets}
use Rattle.floor.proofs.Calling.{goes_on_as_is, goes_on_by_draw, goes_on_with, stays_by_draw}
use Rattle.floor.proofs.crews.fulfil.Goals as goal

pub returns-in-Any-clause-met : goal.returns-in-Any-clause-met
returns-in-Any-clause-met g c =
    subst (λ w. IfOk c.turn_any.result (Meets g.F.Naming.floor w c.args.seat.now c.turn_any.new.seat)) (sym c.in-Any.is) c.turn_any.ensures.ok

pub returns-in-Any-clause-err : goal.returns-in-Any-clause-err
returns-in-Any-clause-err g c = stays_by_draw _ _ _ _ c.turn_any.ensures.err

pub returns-in-Any-clause-goes_on : goal.returns-in-Any-clause-goes_on
returns-in-Any-clause-goes_on g c = goes_on_by_draw _ _ _ _ _ c.turn_any.ensures.ok c.turn_any.ensures.err

pub returns-in-Ok-clause-met : goal.returns-in-Ok-clause-met
returns-in-Ok-clause-met g c =
    subst (λ w. Meets g.F.Naming.floor w c.args.seat.now c.turn.new.seat (Some c.in-Ok.receipt)) (sym c.in-Step.is) c.in-Ok.ensures.ok

pub returns-in-Ok-clause-goes_on : goal.returns-in-Ok-clause-goes_on
returns-in-Ok-clause-goes_on g c = goes_on_with _ _ c.in-Ok.receipt c.in-Ok.ensures.ok.added

pub returns-in-Err-clause-err : goal.returns-in-Err-clause-err
returns-in-Err-clause-err g c = c.in-Err.ensures.err.stays

pub returns-in-Err-clause-goes_on : goal.returns-in-Err-clause-goes_on
returns-in-Err-clause-goes_on g c = goes_on_as_is _ _ c.in-Err.ensures.err.stays
