use Rattle.std.proofs.Common.{◌≡◌, arith, rules, sym, ◌∙◌}
use Rattle.std.proofs.lemmas.Fmt.{decimal_injective}
use Rattle.record_lines.proofs.parsing.number_up_to.Goals as goal

pub returns-else-number-most : goal.returns-else-number-most
returns-else-number-most c = λ n low same.
    let equal : n ≡ c.in_ok-number.number = decimal_injective n c.in_ok-number.number (search rules) (search rules) (sym same ∙ c.in_ok-number.ensures.some) in
    absurd (omega (arith, equal, low, c.if-number-most.false))
