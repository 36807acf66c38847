use Rattle.std.proofs.Common.{refl}
use Rattle.network.proofs.Waits.{on_err}
use Rattle.control.proofs.line_acts.line_act.Goals as goal

pub returns-in_err-line_reserve-clause-err : goal.returns-in_err-line_reserve-clause-err
returns-in_err-line_reserve-clause-err c =
    let room = c.line_reserve.ensures in
    on_err c.from_residual.result (refl, record { traffic = room.traffic; marks = room.marks; room = room.room })
