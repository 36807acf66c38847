use Rattle.std.specs.Fmt.{decimal}
use Rattle.base.proofs.Fronts.{no-second, third}
use Rattle.base.proofs.words.small_and_number.Goals as goal

pub returns-in_err-second : goal.returns-in_err-second
returns-in_err-second c =
    rw c.from_residual-in_err-second.ensures (
    no-second c.args.line.now (decimal c.in_ok-first.first) c.in_ok-first.rest c.in_ok-rest.field-0 c.in_ok-rest.was c.in_ok-first.ensures
    c.in_err-second.ensures)

pub returns-in-Some : goal.returns-in-Some
returns-in-Some c =
    third c.args.line.now (decimal c.in_ok-first.first) (decimal c.in_ok-second.second) c.in_ok-first.rest c.in_ok-second.rest c.in_ok-rest.field-0
    c.in-Some.field-0
    c.in_ok-rest.was c.in-Some.is c.in_ok-first.ensures c.in_ok-second.ensures
