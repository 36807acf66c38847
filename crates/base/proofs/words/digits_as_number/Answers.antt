use Rattle.std.proofs.Common.{take, refl, rules}
use Rattle.base.proofs.Fronts.{number-alone, number-then}
use Rattle.base.proofs.Numbers.{is-number}
use Rattle.base.proofs.words.digits_as_number.Goals as goal

pub returns-in-empty : goal.returns-in-empty
returns-in-empty c =
    let found = c.digits_in_front-value.ensures in
    let first = c.if-has_first_digit.ensures in
    let end = c.digits_in_front-value.result.1 in
    let value = c.digits_in_front-value.result.0 in
    number-alone c.args.line.now value end found.within found.digits
    (is-number (take end c.args.line.now) value found.digits (first.some refl) (first.first refl) found.value (search rules)) c.in-empty.len_below

pub returns-in-32 : goal.returns-in-32
returns-in-32 c =
    let found = c.digits_in_front-value.ensures in
    let first = c.if-has_first_digit.ensures in
    let end = c.digits_in_front-value.result.1 in
    let value = c.digits_in_front-value.result.0 in
    number-then c.args.line.now value end found.within found.digits
    (is-number (take end c.args.line.now) value found.digits (first.some refl) (first.first refl) found.value (search rules)) c.in-32.len_at_least
    (search rules)
