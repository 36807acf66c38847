-- Lines of which only some are kept.
use Rattle.std.proofs.Common.{◌≡◌, ℕ, List, [], ◌∷◌, Option, Some, None, false, refl, ap, sym, ◌∙◌, zero, suc}
use Rattle.std.proofs.Common.{length, get_or, replicate, slice_get, true≢false}
use Rattle.control.specs.declared.line.Line.{Line}
use Rattle.control.specs.LineEffect.{opened_line}
use Rattle.blocks.specs.View.{is_invalid, line_or}
use Rattle.blocks.specs.inner.Lined.{lines_of, kept_lines}
use Rattle.blocks.specs.inner.Named.{IsKept}

-- a line that is kept
pub line-kept : (items : List (Option Line)) (i : ℕ) (line : Line) → Some line ≡ get_or items i None → Some line ≡ slice_get (lines_of items) i
line-kept [] zero line e = absurd (cc e)
line-kept [] (suc i) line e = absurd (cc e)
line-kept (x ∷ items) zero line e = ap (λ o. Some (line_or o)) e
line-kept (x ∷ items) (suc i) line e = line-kept items i line e

-- one that isn't
pub line-not_kept : (items : List (Option Line)) (i : ℕ) → get_or items i None ≡ None →
    slice_get (replicate (length items) opened_line) i ≡ slice_get (lines_of items) i
line-not_kept [] i e = refl
line-not_kept (x ∷ items) zero e = ap (λ o. Some (line_or o)) (sym e)
line-not_kept (x ∷ items) (suc i) e = line-not_kept items i e

-- a line that isn't in I is kept
pub line-kept_unless : (items : List (Option Line)) (i : ℕ) (line : Line) → Some line ≡ slice_get (lines_of items) i
    → is_invalid line.state ≡ false →
    IsKept (kept_lines items) i
line-kept_unless [] i line e v = absurd (cc e)
line-kept_unless (None ∷ items) zero line e v =
    let s : line ≡ opened_line = cc e in
    absurd (true≢false (sym (ap (λ (l : Line). is_invalid l.state) s) ∙ v))
line-kept_unless (Some x ∷ items) zero line e v = refl
line-kept_unless (x ∷ items) (suc i) line e v = line-kept_unless items i line e v
