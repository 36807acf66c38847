-- A line that is well formed where it is due has no fault.
use Rattle.std.proofs.Common.{◌≡◌, ◌≢◌, ◌≤◌, ◌<◌, ◌^◌, ℕ, List, [], ◌∷◌, ◌++◌, Option, Some, None}
use Rattle.std.proofs.Common.{length, refl, ap, sym, subst, ◌∙◌, arith, codes, length-append}
use Rattle.std.specs.List.{AllByRecursion}
use Rattle.std.specs.Fmt.{decimal}
use Rattle.std.proofs.lemmas.Fmt.{decimal_by_steps, decimal_injective}
use Rattle.base.specs.Spelling.{ask_words, step_words, FitsAsk, FitsStep}
use Rattle.base.specs.declared.step.Ask.{Ask}
use Rattle.base.specs.declared.step.Ask.TheVariants.{Load, Store, Replace}
use Rattle.base.specs.declared.step.Step.{Step}
use Rattle.base.specs.declared.step.Step.TheVariants as step
use Rattle.record_lines.specs.declared.fault.ReadKind.{ReadKind}
use Rattle.record_lines.specs.declared.fault.ReadKind.TheVariants.{BadHeader, BadLine, Truncated, CountDiffers, BadOutcome, OverLimit, NoMemory, Device}
use Rattle.record_lines.specs.declared.fault.ReadKind.TheVariants.{UnknownProtocol}
use Rattle.base.specs.Protocols.{protocol_name}
use Rattle.record_lines.specs.Text.{by_words, end_words}
use Rattle.record_lines.specs.declared.due.Due.{Due}
use Rattle.record_lines.specs.declared.due.Due.TheVariants.{Header, ProtocolLine, ShapeLine, SeatsLine, OpeningLine, CellCount, CellLine}
use Rattle.record_lines.specs.declared.due.Due.TheVariants.{EntryCount, EntryLine, EndLine, Nothing}
use Rattle.record_lines.specs.Grammar.{IsOwner, Leads}
use Rattle.record_lines.specs.Refused.{IsOver, IsMiscounted, IsBadOutcome, IsUnknown, IsFaultOfLine}
use Rattle.record_lines.proofs.Legible.{all-append}
use Rattle.record_lines.proofs.Leading.{IsDue, step-line}

-- ---- a step and what stands behind the equals sign

-- no word is the equals sign
abbrev IsNoSign : List ℕ → Type 0
IsNoSign word = word ≢ codes "="

digits : (n : ℕ) → n < 2 ^ 64 → AllByRecursion (λ b. b ≤ 57) (decimal n)
digits n low =
    decimal_by_steps (λ k ds. AllByRecursion (λ b. b ≤ 57) ds) (λ k h. (omega (arith, h), tt))
    (λ k ds h more. all-append (λ b. b ≤ 57) ds _ more (omega arith, tt)) n low

number-no_sign : (n : ℕ) → n < 2 ^ 64 → IsNoSign (decimal n)
number-no_sign n low e =
    let high : AllByRecursion (λ b. b ≤ 57) (codes "=") = subst (AllByRecursion (λ b. b ≤ 57)) e (digits n low) in absurd (omega (arith, high.0))

ask-no_sign : (a : Ask) → FitsAsk a → AllByRecursion IsNoSign (ask_words a)
ask-no_sign Load f = (λ e. cc, tt)
ask-no_sign (Store value) f = (λ e. cc, (number-no_sign value f, tt))
ask-no_sign Replace f = (λ e. cc, tt)

step-no_sign : (s : Step) → FitsStep s → AllByRecursion IsNoSign (step_words s)
step-no_sign (step.Ask c b a) f = (λ e. cc, (number-no_sign c.0 (omega (arith, f.0)), (number-no_sign b.0 (omega (arith, f.1)), ask-no_sign a f.2)))
step-no_sign (step.Request b i) f = (λ e. cc, (number-no_sign b.0 (omega (arith, f.0)), (number-no_sign i f.1, tt)))
step-no_sign (step.Forward b c) f = (λ e. cc, (number-no_sign b.0 (omega (arith, f.0)), (number-no_sign c.0 (omega (arith, f.1)), tt)))
step-no_sign (step.Response b i) f = (λ e. cc, (number-no_sign b.0 (omega (arith, f.0)), (number-no_sign i f.1, tt)))

behind-sign : (xs ys us vs : List (List ℕ)) → AllByRecursion IsNoSign xs → AllByRecursion IsNoSign ys →
    xs ++ codes "=" ∷ us ≡ ys ++ codes "=" ∷ vs →
    (xs ≡ ys) × (us ≡ vs)
behind-sign [] [] us vs h k e = (refl, cc)
behind-sign [] (y ∷ ys) us vs h k e = let is : y ≡ codes "=" = cc in absurd (k.0 is)
behind-sign (x ∷ xs) [] us vs h k e = let is : x ≡ codes "=" = cc in absurd (h.0 is)
behind-sign (x ∷ xs) (y ∷ ys) us vs h k e =
    let first : x ≡ y = cc in
    let rest : xs ++ codes "=" ∷ us ≡ ys ++ codes "=" ∷ vs = cc in
    let both = behind-sign xs ys us vs h.1 k.1 rest in
    (ap (λ w. w ∷ xs) first ∙ ap (λ l. y ∷ l) both.0, both.1)

-- a line has one step before its equals sign, and one outcome behind it
pub same-halves : (s t : Step) (us vs : List (List ℕ)) → FitsStep s → FitsStep t →
    step_words s ++ codes "=" ∷ us ≡ step_words t ++ codes "=" ∷ vs →
    (step_words s ≡ step_words t) × (us ≡ vs)
same-halves s t us vs f g e = behind-sign (step_words s) (step_words t) us vs (step-no_sign s f) (step-no_sign t g) e

-- with or without an owner
pub owned-two : (o : Option ℕ) (s : Step) (us : List (List ℕ)) → FitsStep s → by_words o ++ (step_words s ++ codes "=" ∷ us) ≢ end_words
owned-two o s us f e =
    let some = step-line s f in
    absurd
    (omega (
      arith,
      ap length e,
      length-append (by_words o) (step_words s ++ codes "=" ∷ us),
      length-append (step_words s) (codes "=" ∷ us),
      some.1,
    ))

-- a line has one owner in front
pub by-same : (seats : ℕ) (a b : Option ℕ) (xs ys : List (List ℕ)) → seats ≤ 64 → IsOwner seats a → IsOwner seats b →
    by_words a ++ xs ≡ by_words b ++ ys → (a ≡ b) × (xs ≡ ys)
by-same seats None None xs ys few h k e = (refl, e)
by-same seats None (Some b) xs ys few h k e = absurd (omega (arith, h, k))
by-same seats (Some a) None xs ys few h k e = absurd (omega (arith, h, k))
by-same seats (Some a) (Some b) xs ys few h k e =
    let word : decimal a ≡ decimal b = cc in
    let rest : xs ≡ ys = cc in
    (ap Some (decimal_injective a b (omega (arith, few, h)) (omega (arith, few, k)) word), rest)

-- ---- a line that is well formed where it is due has no fault

over-not_good : (due : Due) (line : List (List ℕ)) (next : Due) → Leads due line next → IsOver due line → ⊥
over-not_good Header line next l h = h
over-not_good ProtocolLine line next l h = h
over-not_good (SeatsLine f shape) line next l h =
    let same : codes "seats" ∷ h.count ∷ [] ≡ codes "seats" ∷ decimal l.0 ∷ [] = sym h.spelled ∙ l.2 in h.higher l.0 l.1 cc
over-not_good (ShapeLine f) line next l h = h.outside l.0 l.1 l.2
over-not_good (OpeningLine f shape) line next l h = h
over-not_good (CellCount f) line next l h =
    let same : codes "cells" ∷ h.count ∷ [] ≡ codes "cells" ∷ decimal l.0 ∷ [] = sym h.spelled ∙ l.2 in h.higher l.0 l.1 cc
over-not_good (CellLine f left from) line next l h = h
over-not_good (EntryCount f) line next l h =
    let same : codes "entries" ∷ h.count ∷ [] ≡ codes "entries" ∷ decimal l.0 ∷ [] = sym h.spelled ∙ l.2 in h.higher l.0 l.1 cc
over-not_good (EntryLine f left) line next l h = h
over-not_good (EndLine f) line next l h = h
over-not_good Nothing line next l h = h

miscounted-not_good : (due : Due) (line : List (List ℕ)) (next : Due) → Leads due line next → IsMiscounted due line → ⊥
miscounted-not_good Header line next l h = h
miscounted-not_good ProtocolLine line next l h = h
miscounted-not_good (SeatsLine f shape) line next l h = h
miscounted-not_good (ShapeLine f) line next l h = h
miscounted-not_good (OpeningLine f shape) line next l h = h
miscounted-not_good (CellCount f) line next l h = h
miscounted-not_good (CellLine f left from) line next l h = h
miscounted-not_good (EntryCount f) line next l h = h
miscounted-not_good (EntryLine f left) line next l h = owned-two l.0.owner l.0.entry.step _ l.1.1.0 (sym l.2 ∙ h)
miscounted-not_good (EndLine f) line next l h = owned-two h.0.owner h.0.entry.step _ h.1.1.0 (sym h.2 ∙ l.0)
miscounted-not_good Nothing line next l h = h

outcome-not_good : (due : Due) (line : List (List ℕ)) (next : Due) → IsDue due → Leads due line next → IsBadOutcome due line → ⊥
outcome-not_good Header line next is l h = h
outcome-not_good ProtocolLine line next is l h = h
outcome-not_good (SeatsLine f shape) line next is l h = h
outcome-not_good (ShapeLine f) line next is l h = h
outcome-not_good (OpeningLine f shape) line next is l h = h
outcome-not_good (CellCount f) line next is l h = h
outcome-not_good (CellLine f left from) line next is l h = h
outcome-not_good (EntryCount f) line next is l h = h
outcome-not_good (EntryLine f left) line next is l h =
    let both = by-same f.seats h.owner l.0.owner _ _ is h.owned l.1.0 (sym h.spelled ∙ l.2) in
    h.none l.0.entry.outcome l.1.1.1 (same-halves h.step l.0.entry.step (h.first ∷ h.others) _ h.fits l.1.1.0 both.1).1
outcome-not_good (EndLine f) line next is l h = h
outcome-not_good Nothing line next is l h = h

unknown-not_good : (due : Due) (line : List (List ℕ)) (next : Due) → Leads due line next → IsUnknown due line → ⊥
unknown-not_good ProtocolLine line next l h =
    let same : codes "protocol" ∷ h.name ∷ [] ≡ codes "protocol" ∷ protocol_name l.0 ∷ [] = sym h.spelled ∙ l.1 in
    let name : h.name ≡ protocol_name l.0 = cc in
    h.none l.0 name
unknown-not_good Header line next l h = h
unknown-not_good (ShapeLine f) line next l h = h
unknown-not_good (SeatsLine f shape) line next l h = h
unknown-not_good (OpeningLine f shape) line next l h = h
unknown-not_good (CellCount f) line next l h = h
unknown-not_good (CellLine f left from) line next l h = h
unknown-not_good (EntryCount f) line next l h = h
unknown-not_good (EntryLine f left) line next l h = h
unknown-not_good (EndLine f) line next l h = h
unknown-not_good Nothing line next l h = h

pub fault-not_good : (due : Due) (line : List (List ℕ)) (next : Due) (kind : ReadKind) →
    IsDue due → Leads due line next → IsFaultOfLine due line kind → ⊥
fault-not_good due line next OverLimit is l h = over-not_good due line next l h
fault-not_good due line next BadHeader is l h = let good = subst (λ d. Leads d line next) h.0 l in h.1 good.0 good.1
fault-not_good due line next UnknownProtocol is l h = unknown-not_good due line next l h
fault-not_good due line next CountDiffers is l h = miscounted-not_good due line next l h
fault-not_good due line next BadOutcome is l h = outcome-not_good due line next is l h
fault-not_good due line next BadLine is l h = h.other next l
fault-not_good due line next Truncated is l h = h
fault-not_good due line next NoMemory is l h = h
fault-not_good due line next Device is l h = h
