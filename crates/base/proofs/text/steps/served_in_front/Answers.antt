use Rattle.std.proofs.Common.{rules, ◌≡◌, ◌∷◌, List, ℕ, ap, ◌∙◌}
use Rattle.std.specs.Fmt.{decimal}
use Rattle.base.specs.Words.{words, words_behind}
use Rattle.base.proofs.Spellings.{no_cache, no_number}
use Rattle.base.proofs.text.steps.served_in_front.Goals as goal

pub returns-in_err-number : goal.returns-in_err-number
returns-in_err-number c =
    let behind : words_behind c.in_ok-block.rest ≡ words c.in_ok-rest.field-0.now = ap words_behind c.in_ok-rest.was in
    rw c.from_residual-in_err-number.ensures (
    no_number c.args.kind (words c.args.line.now) (words c.in_ok-rest.field-0.now) (decimal c.in_ok-block.block)
    (c.in_ok-block.ensures ∙ ap (λ (l : List (List ℕ)). decimal c.in_ok-block.block ∷ l) behind) c.in_err-number.ensures)

pub returns-in_default : goal.returns-in_default
returns-in_default c =
    let behind : words_behind c.in_ok-block.rest ≡ words c.in_ok-rest.field-0.now = ap words_behind c.in_ok-rest.was in
    rw c.in-Forward.is (
    no_cache (words c.args.line.now) (decimal c.in_ok-block.block) c.in_ok-number.number (words_behind c.in_ok-number.rest)
    (c.in_ok-block.ensures ∙ ap (λ (l : List (List ℕ)). decimal c.in_ok-block.block ∷ l) (behind ∙ c.in_ok-number.ensures)) (search rules)
    c.in_default.ensures)
