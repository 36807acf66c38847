use Rattle.std.proofs.Common.{◌≡◌, arith, eqb, false, length, sym, true}
use Rattle.std.proofs.lemmas.Bool.{eqb-false, eqb-true}
use Rattle.base.proofs.Numbers.{no-leading-zero, not-empty}
use Rattle.base.proofs.words.has_first_digit.Goals as goal

pub returns-then-is_empty-clause-none : goal.returns-then-is_empty-clause-none
returns-then-is_empty-clause-none c = λ no m small is.
    let empty : true ≡ eqb (length c.args.text.now) 0 = c.if-is_empty.ensures in
    not-empty c.args.text.now m (eqb-true (length c.args.text.now) 0 (sym empty)) small is

pub returns-clause-none : goal.returns-clause-none
returns-clause-none c = λ no m small is.
    let zero = c.if-text-ne48.false in
    let long : eqb (length c.args.text.now) 1 ≡ false = no in
    no-leading-zero c.args.text.now m (omega (arith, zero)) (eqb-false (length c.args.text.now) 1 long) small is
