-- What a stall over an own entry comes to, and the reason for an entry, whatever the own ones are.
use Rattle.std.proofs.Common.{◌≡◌, ◌≢◌, ◌⊎◌, inl, inr, List, Bool, true, false, not, MatchBool, sym, ◌∙◌, subst}
use Rattle.base.specs.declared.controller.entry.CellEntry.{CellEntry}
use Rattle.base.specs.declared.controller.entry.CellEntry.TheVariants.{Blank, Stall, Act}
use Rattle.certify.specs.Standings.{IsReason}
use Rattle.certify.specs.declared.standings.Standing.{Standing}

pub no-stall : {S A : Type 0} (own : CellEntry S A) (next : S) (actions : List A) → own ≡ Act next actions → own ≢ Stall
no-stall own next actions e s = let z : Act next actions ≡ Stall = sym e ∙ s in absurd (cc)

pub no-blank : {S A : Type 0} (own : CellEntry S A) (next : S) (actions : List A) → own ≡ Act next actions → own ≢ Blank
no-blank own next actions e s = let z : Act next actions ≡ Blank = sym e ∙ s in absurd (cc)

-- a stall over an entry that acts lets messages flow exactly where it may wait
pub jams : {X : Type 0} (May : Type 0) (entry own stall blank : X) (may : Bool) → entry ≡ stall → own ≢ stall → own ≢ blank → MatchBool may May (¬ May) →
    MatchBool (not may) (¬ (entry ≡ stall → (own ≡ stall) ⊎ (own ≡ blank) ⊎ May)) (entry ≡ stall → (own ≡ stall) ⊎ (own ≡ blank) ⊎ May)
jams May entry own stall blank true held s b m = λ e. inr (inr m)
jams May entry own stall blank false held s b m = λ flows. elim (flows held) [
  | inl e ↦ absurd (s e)
  | inr (inl e) ↦ absurd (b e)
  | inr (inr h) ↦ absurd (m h)
]

-- a reason is one for what is the same
pub same-reason : {S A : Type 0} (x own y entry : CellEntry S A) (s : Standing) → x ≡ own → y ≡ entry → IsReason x y s → IsReason own entry s
same-reason x own y entry s e f h = subst (λ z. IsReason own z s) f (subst (λ z. IsReason z y s) e h)
