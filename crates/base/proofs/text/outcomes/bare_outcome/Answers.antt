use Rattle.std.proofs.Common.{arith, ap, rules, List, ℕ, ◌∷◌, []}
use Rattle.std.proofs.lemmas.Slice.Eq.{text_from_reads}
use Rattle.base.proofs.text.outcomes.bare_outcome.Goals as goal

pub returns-in-absent : goal.returns-in-absent
returns-in-absent c = ap (λ (word : List ℕ). word ∷ []) (text_from_reads c.args.word.now _ (omega arith) (search rules))

pub returns-in-broken : goal.returns-in-broken
returns-in-broken c = ap (λ (word : List ℕ). word ∷ []) (text_from_reads c.args.word.now _ (omega arith) (search rules))
