use Rattle.std.proofs.Common.{◌∙◌, ap, arith, refl, subst}
use Rattle.std.proofs.lemmas.Int.Digits.{digits_more, digits_value_more}
use Rattle.std.proofs.lemmas.List.{take_all}
use Rattle.std.specs.Str.Parse.{AllDigits, digits_value}
use Rattle.base.proofs.Numbers.{is-number, not-a-digit, too-large}
use Rattle.base.proofs.words.number_of.Goals as goal

pub returns-in_err-digit-clause-none : goal.returns-in_err-digit-clause-none
returns-in_err-digit-clause-none c =
    rw c.from_residual.ensures (λ m small is.
    let low = c.loop-i-test.true in
    not-a-digit c.args.text.now c.loop-i.i m (omega (arith, low)) c.in_err-digit.ensures.none small is)

pub returns-in_err-checked_mul-clause-none : goal.returns-in_err-checked_mul-clause-none
returns-in_err-checked_mul-clause-none c =
    rw c.from_residual-in_err-checked_mul.ensures (λ m small is.
    let low = c.loop-i-test.true in
    let large = c.in_err-checked_mul.ensures in
    too-large c.args.text.now c.loop-i.i c.loop-i.n m (omega (arith, low)) c.loop-i.invariant.value (omega (arith, large)) small is)

pub returns-in_err-n-clause-none : goal.returns-in_err-n-clause-none
returns-in_err-n-clause-none c =
    rw c.from_residual-in_err-n.ensures (λ m small is.
    let low = c.loop-i-test.true in
    let large = c.in_err-n.ensures in
    let ten = c.in_ok-checked_mul.ensures in
    let digit = c.in_ok-digit.ensures.some.0 in
    too-large c.args.text.now c.loop-i.i c.loop-i.n m (omega (arith, low)) c.loop-i.invariant.value (omega (arith, large, ten, digit)) small is)

pub loop-i-preserved : goal.loop-i-preserved
loop-i-preserved c =
    let text = c.args.text.now in
    let low = c.loop-i-test.true in
    let digit = c.in_ok-digit.ensures.some.0 in
    let small = c.in_ok-digit.ensures.some.1 in
    let ten = c.in_ok-checked_mul.ensures in
    let one = c.in_ok-n.ensures in
    let value = c.loop-i.invariant.value in
    let more = digits_value_more 10 text c.loop-i.i (omega (arith, low)) in
    record {
      digits = digits_more 10 text c.loop-i.i (omega (arith, low)) c.loop-i.invariant.digits (omega (arith, digit, small));
      small = omega (arith, one);
      value = omega (arith, digit, ten, one, value, more);
    }

pub returns-clause-some : goal.returns-clause-some
returns-clause-some c =
    let text = c.args.text.now in
    let end = c.loop-i-test.false in
    let last = c.loop-i.auto.i-end in
    let all = take_all c.loop-i.i text (omega (arith, end, last)) in
    is-number text c.loop-i.n (subst (AllDigits 10) all c.loop-i.invariant.digits) (c.if-not-has_first_digit.ensures.some refl)
    (c.if-not-has_first_digit.ensures.first refl)
    (c.loop-i.invariant.value ∙ ap (digits_value 10) all) c.loop-i.invariant.small
