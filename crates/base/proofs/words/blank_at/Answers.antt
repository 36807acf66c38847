use Rattle.std.proofs.Common.{sym, rules, arith, eqb, length}
use Rattle.std.proofs.lemmas.List.Sums.{position_or_len_is}
use Rattle.base.proofs.words.blank_at.Goals as goal

pub returns-then-line-i-eq32-clause-place : goal.returns-then-line-i-eq32-clause-place
returns-then-line-i-eq32-clause-place c =
    sym (position_or_len_is (λ b. eqb b 32) c.args.line.now c.loop-i.i 0 (search rules) c.loop-i.invariant (λ low. search rules))

pub returns-clause-place : goal.returns-clause-place
returns-clause-place c =
    sym (position_or_len_is (λ b. eqb b 32) c.args.line.now (length c.args.line.now) 0 (omega arith) (λ k low. c.loop-i.invariant k (search rules))
    (λ low. absurd (omega (arith, low))))
