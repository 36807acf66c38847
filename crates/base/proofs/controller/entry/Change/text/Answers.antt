use Rattle.std.proofs.Common.{arith}
use Rattle.std.proofs.lemmas.Grind.{common_steps, elements}
use Rattle.base.proofs.controller.entry.Change.text.Goals as goal

pub returns-clause-text : goal.returns-clause-text
returns-clause-text g c = grind (arith, common_steps)

pub returns-clause-short : goal.returns-clause-short
returns-clause-short g c = grind (arith, common_steps)

pub returns-clause-fits : goal.returns-clause-fits
returns-clause-fits g c = grind (arith, common_steps)

pub push-requires : goal.push-requires
push-requires g c = grind (arith, elements)

pub push_word-requires : goal.push_word-requires
push_word-requires g c = grind (arith, elements)

pub push_word-requires-2 : goal.push_word-requires-2
push_word-requires-2 g c = grind (arith, elements)

pub push_word-requires-3 : goal.push_word-requires-3
push_word-requires-3 g c = grind (arith, elements)
