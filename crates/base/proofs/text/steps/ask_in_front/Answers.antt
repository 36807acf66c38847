use Rattle.std.proofs.Common.{◌≡◌, ◌∷◌, List, ℕ, ap, ◌∙◌}
use Rattle.std.specs.Fmt.{decimal}
use Rattle.base.specs.Words.{words, words_behind}
use Rattle.base.proofs.Spellings.{no_ask}
use Rattle.base.proofs.text.steps.ask_in_front.Goals as goal

pub returns-in_err-block : goal.returns-in_err-block
returns-in_err-block c =
    let behind : words_behind c.in_ok-cache.rest ≡ words c.in_ok-rest.field-0.now = ap words_behind c.in_ok-rest.was in
    rw c.from_residual-in_err-block.ensures (
    no_ask (words c.args.line.now) (words c.in_ok-rest.field-0.now) (decimal c.in_ok-cache.cache)
    (c.in_ok-cache.ensures ∙ ap (λ (l : List (List ℕ)). decimal c.in_ok-cache.cache ∷ l) behind) c.in_err-block.ensures)
