use Rattle.std.proofs.Common.{◌≡◌, ◌++◌, ◌∙◌, ap, sym, map, rules}
use Rattle.base.specs.Words.{words, words_behind}
use Rattle.base.proofs.Spelled.{cut-words}
use Rattle.base.proofs.Spelled.{no-name, more-words}
use Rattle.base.proofs.controller.spelling.actions_of.Goals as goal

pub returns-in_default-named-clause-actions : goal.returns-in_default-named-clause-actions
returns-in_default-named-clause-actions g c = λ others few is.
    let here : words_behind c.loop-rest.rest ≡ words c.in-Some.text.now = ap words_behind c.in-Some.is in
    let next = cut-words c.cut.result.1 (words c.in-Some.text.now) c.cut.result.0.now c.cut.ensures in
    no-name g.A.Listed.spelling c.loop-rest.actions others c.cut.result.0.now (words_behind c.cut.result.1) (search rules)
    (ap (λ l. map g.A.Listed.spelling c.loop-rest.actions ++ l) (sym (here ∙ next)) ∙ sym c.loop-rest.invariant.0 ∙ is)

pub returns-in-Some-rest-clause-actions : goal.returns-in-Some-rest-clause-actions
returns-in-Some-rest-clause-actions g c = λ others few is.
    let here : words_behind c.loop-rest.rest ≡ words c.in-Some-rest.field-0.now = ap words_behind c.in-Some-rest.is in
    more-words g.A.Listed.spelling c.loop-rest.actions others c.in-Some-rest.field-0.now (search rules) few
    (ap (λ l. map g.A.Listed.spelling c.loop-rest.actions ++ l) (sym here) ∙ sym c.loop-rest.invariant.0 ∙ is)
