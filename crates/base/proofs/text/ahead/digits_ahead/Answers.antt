use Rattle.std.proofs.Common.{take, refl, rules}
use Rattle.base.proofs.Fronts.{number-ahead}
use Rattle.base.proofs.Numbers.{is-number}
use Rattle.base.proofs.text.ahead.digits_ahead.Goals as goal

pub returns : goal.returns
returns c =
    let found = c.digits_in_front-value.ensures in
    let first = c.if-not-has_first_digit.ensures in
    let count = c.digits_in_front-value.result.1 in
    let value = c.digits_in_front-value.result.0 in
    number-ahead c.args.bytes.now c.in_ok-rest.rest.now value count c.args.end
    (is-number (take count c.args.bytes.now) value found.digits (first.some refl) (first.first refl) found.value (search rules)) found.within
    c.in_ok-rest.ensures
