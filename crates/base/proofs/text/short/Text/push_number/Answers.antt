use Rattle.std.proofs.Common.{◌∷◌, ◌++◌, List, ℕ, ap, sym, ◌∙◌}
use Rattle.std.proofs.lemmas.Fmt.{decimal_digit}
use Rattle.base.proofs.text.short.Text.push_number.Goals as goal

pub returns-then-number-lt10-clause-text : goal.returns-then-number-lt10-clause-text
returns-then-number-lt10-clause-text c =
    c.push.ensures.text ∙ ap (λ (digits : List ℕ). c.args.self.now ++ 32 ∷ digits) (sym (decimal_digit c.args.number c.if-number-lt10.true))
