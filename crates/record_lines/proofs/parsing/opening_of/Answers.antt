use Rattle.std.proofs.Common.{◌≡◌, ◌++◌, ◌∙◌, ap, rules, arith}
use Rattle.std.proofs.lemmas.Grind.{common_steps}
use Rattle.base.specs.Words.{words, words_behind}
use Rattle.record_lines.specs.Text.{opening_words}
use Rattle.base.proofs.Spelled.{cut-words}
use Rattle.record_lines.proofs.Openings.{many-values, no-value}
use Rattle.record_lines.proofs.parsing.opening_of.Goals as goal

pub returns-in_default-number_of-clause-read : goal.returns-in_default-number_of-clause-read
returns-in_default-number_of-clause-read c =
    let here : words_behind c.loop-rest.rest ≡ words c.in-Some.text.now = ap words_behind c.in-Some.is in
    let next = cut-words c.cut-in-loop-rest.result.1 (words c.in-Some.text.now) c.cut-in-loop-rest.result.0.now c.cut-in-loop-rest.ensures in
    no-value c.args.blocks (words c.args.line.now) c.loop-rest.values.items c.cut-in-loop-rest.result.0.now (words_behind c.cut-in-loop-rest.result.1)
    (c.loop-rest.invariant.0 ∙ ap (λ l. opening_words c.loop-rest.values.items ++ l) (here ∙ next)) (search rules) (search rules)

pub returns-in-Some-rest-clause-read : goal.returns-in-Some-rest-clause-read
returns-in-Some-rest-clause-read c =
    let here : words_behind c.loop-rest.rest ≡ words c.in-Some-rest.field-0.now = ap words_behind c.in-Some-rest.is in
    many-values c.args.blocks (words c.args.line.now) c.loop-rest.values.items c.in-Some-rest.field-0.now
    (c.loop-rest.invariant.0 ∙ ap (λ l. opening_words c.loop-rest.values.items ++ l) here) (search rules)

pub returns-then-ne-clause-read : goal.returns-then-ne-clause-read
returns-then-ne-clause-read c = grind (arith, common_steps)

pub returns-then-ne-clause-room : goal.returns-then-ne-clause-room
returns-then-ne-clause-room c = grind (arith, common_steps)

pub returns-in_default-clause-read : goal.returns-in_default-clause-read
returns-in_default-clause-read c = grind (arith, common_steps)

pub returns-in_default-clause-room : goal.returns-in_default-clause-room
returns-in_default-clause-room c = grind (arith, common_steps)

pub returns-in_default-number_of-clause-room : goal.returns-in_default-number_of-clause-room
returns-in_default-number_of-clause-room c = grind (arith, common_steps)

pub loop-rest-smaller : goal.loop-rest-smaller
loop-rest-smaller c = grind (arith, common_steps)

pub loop-rest-preserved : goal.loop-rest-preserved
loop-rest-preserved c = grind (arith, common_steps)

pub returns-in-None-clause-read : goal.returns-in-None-clause-read
returns-in-None-clause-read c = grind (arith, common_steps)

pub returns-in-None-clause-room : goal.returns-in-None-clause-room
returns-in-None-clause-room c = grind (arith, common_steps)

pub returns-in-Some-rest-clause-room : goal.returns-in-Some-rest-clause-room
returns-in-Some-rest-clause-room c = grind (arith, common_steps)
