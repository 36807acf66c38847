use Rattle.std.proofs.Common.{ap, arith, inl, inr, sym, ◌∙◌}
use Rattle.std.proofs.lemmas.Bool.{cases_lt}
use Rattle.std.specs.Int.{to_le_bytes, w32, w64}
use Rattle.base.proofs.Alike.{begins-same, same-from}
use Rattle.base.proofs.words.begins_with.Goals as goal
use Rattle.base.proofs.words.begins_with.Goals.{then-word-at-ge4+else-four_from, else-word-at-ge4}

pub loop-at-preserved : goal.loop-at-preserved
loop-at-preserved c =
    let eight = sym c.eight_from.ensures ∙ ap (to_le_bytes w64) c.if-eight_from.false ∙ c.eight_from-in-loop-at.ensures in (
      omega (arith, c.loop-at-test.true, c.loop-at.invariant.0),
      λ k lt. elim (cases_lt k c.loop-at.at) [
        | inl before ↦ c.loop-at.invariant.1 k before
        | inr behind ↦ same-from 8 c.loop-at.at c.args.line.now c.args.word.now eight k behind lt
      ],
    )

pub loop-i-init : goal.loop-i-init
loop-i-init c = elim c.if-word-at-ge4.branch [
  | then-word-at-ge4+else-four_from w ↦ λ k lt.
      let four = sym w.four_from.ensures ∙ ap (to_le_bytes w32) w.if-four_from.false ∙ w.four_from-then-word-at-ge4.ensures in
      elim (cases_lt k c.loop-at.at) [
        | inl before ↦ c.loop-at.invariant.1 k before
        | inr behind ↦ same-from 4 c.loop-at.at c.args.line.now c.args.word.now four k behind (omega (arith, lt, w.at-is))
      ]
  | else-word-at-ge4 w ↦ λ k lt. c.loop-at.invariant.1 k (omega (arith, lt, w.at-is))
]

pub returns-clause-yes : goal.returns-clause-yes
returns-clause-yes c = λ yes.
    begins-same c.args.line.now c.args.word.now c.if-line-word.false (λ k lt. c.loop-i.invariant k (omega (arith, lt, c.loop-i-test.false)))
