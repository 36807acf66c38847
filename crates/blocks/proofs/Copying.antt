-- A copy of a block keeps the lines of what it was copied from.
use Rattle.std.proofs.Common.{◌≡◌, List, [], ◌∷◌, Option, Some, None, refl, ap, sym, ◌∙◌, map}
use Rattle.std.specs.Option.{option_map}
use Rattle.control.specs.declared.line.Line.{Line}

lines-seen : (items : List (Option Line)) → map (option_map (λ (line : Line). line)) items ≡ items
lines-seen [] = refl
lines-seen (None ∷ items) = ap (λ os. None ∷ os) (lines-seen items)
lines-seen (Some line ∷ items) = ap (λ os. Some line ∷ os) (lines-seen items)

-- the same lines are kept
pub lines-copied : (copy items : List (Option Line)) →
    map (option_map (λ (line : Line). line)) copy ≡ map (option_map (λ (line : Line). line)) items → copy ≡ items
lines-copied copy items e = sym (lines-seen copy) ∙ e ∙ lines-seen items
