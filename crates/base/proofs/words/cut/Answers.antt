use Rattle.std.proofs.Common.{eqb, rules}
use Rattle.base.proofs.Lines.{first_word}
use Rattle.base.proofs.words.cut.Goals as goal

pub returns : goal.returns
returns c = first_word (λ b. eqb b 32) c.args.line.now c.blank_at-at.result c.blank_at-at.ensures.place (search rules)
