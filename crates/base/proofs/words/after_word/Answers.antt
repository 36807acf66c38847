use Rattle.std.proofs.Common.{◌∷◌, arith, refl}
use Rattle.base.specs.Words.{spaced}
use Rattle.base.proofs.Fronts.{alone, followed, other-behind, spelled, with-behind}
use Rattle.base.proofs.words.after_word.Goals.{else-line-word-via-then-line-word+else-line-word-ne32, else-line-word-via-else-line-word}
use Rattle.base.proofs.words.after_word.Goals as goal

pub returns-then-line-word-ne32 : goal.returns-then-line-word-ne32
returns-then-line-word-ne32 c = λ others is. other-behind c.args.line.now c.args.word.now others c.if-line-word.true c.if-line-word-ne32.true is

pub returns-then-not-begins_with : goal.returns-then-not-begins_with
returns-then-not-begins_with c = λ others is.
    c.if-not-begins_with.ensures.no refl (spaced others) (spelled c.args.line.now (c.args.word.now ∷ others) is)

pub returns-in-empty : goal.returns-in-empty
returns-in-empty c =
    alone c.args.line.now c.args.word.now _ c.requires (with-behind c.args.line.now c.args.word.now (c.if-not-begins_with.ensures.yes refl))
    c.in-empty.len_below

pub returns-in-len1-up : goal.returns-in-len1-up
returns-in-len1-up c =
    followed c.args.line.now c.args.word.now _ c.requires (with-behind c.args.line.now c.args.word.now (c.if-not-begins_with.ensures.yes refl))
    c.in-len1-up.len_at_least
    (elim c.else-line-word.branch [
      | else-line-word-via-then-line-word+else-line-word-ne32 w ↦ λ longer. w.if-line-word-ne32.false
      | else-line-word-via-else-line-word w ↦ λ longer. absurd (omega (arith, longer, w.if-line-word.false))
    ])
