-- Bytes that are refused are refused in one place, as one fault.
use Rattle.std.proofs.Common.{◌≡◌, ◌<◌, ◌+◌, ℕ, List, [], ◌∷◌, ◌++◌, length, refl, ap, sym, subst, ◌∙◌, arith, suc, Option, Some, None, append_assoc}
use Rattle.std.specs.List.{flat_map}
use Rattle.base.specs.Words.{words}
use Rattle.record_lines.specs.declared.fault.ReadKind.{ReadKind}
use Rattle.record_lines.specs.declared.fault.ReadKind.TheVariants.{BadHeader, BadLine, Truncated, CountDiffers, BadOutcome, OverLimit, NoMemory, Device}
use Rattle.record_lines.specs.declared.fault.ReadKind.TheVariants.{UnknownProtocol}
use Rattle.record_lines.specs.declared.due.Due.{Due}
use Rattle.record_lines.specs.declared.due.Due.TheVariants.{Header, ProtocolLine, ShapeLine, SeatsLine, OpeningLine, CellCount, CellLine, EntryCount}
use Rattle.record_lines.specs.declared.due.Due.TheVariants.{EntryLine, EndLine, Nothing}
use Rattle.record_lines.specs.Grammar.{Leads, Follow}
use Rattle.record_lines.specs.Refused.{IsOver, IsMiscounted, IsBadOutcome, IsUnknown, IsFaultOfLine, ended, limit, BeginsFaulty, IsTooLong, IsUnfinished}
use Rattle.record_lines.specs.Refused.{IsRefused, IsOutside}
use Rattle.record_lines.proofs.Leading.{IsDue, leads-due, leads-one}
use Rattle.record_lines.proofs.Ending.{line-ends_in, line-ends_within, one-line_first}
use Rattle.record_lines.proofs.Faulting.{owned-two}
use Rattle.record_lines.proofs.Refusals.{Fault, ends, long, begins, behind, outside, fault-of, good-outside, good-open}

-- ---- a line has one fault where it is due

header-over : (due : Due) (line : List (List ℕ)) → due ≡ Header → IsOver due line → ⊥
header-over due line is h = subst (λ d. IsOver d line) is h

header-miscounted : (due : Due) (line : List (List ℕ)) → due ≡ Header → IsMiscounted due line → ⊥
header-miscounted due line is h = subst (λ d. IsMiscounted d line) is h

header-outcome : (due : Due) (line : List (List ℕ)) → due ≡ Header → IsBadOutcome due line → ⊥
header-outcome due line is h = subst (λ d. IsBadOutcome d line) is h

over-miscounted : (due : Due) (line : List (List ℕ)) → IsOver due line → IsMiscounted due line → ⊥
over-miscounted (EntryLine f left) line h k = h
over-miscounted (EndLine f) line h k = h
over-miscounted Header line h k = k
over-miscounted ProtocolLine line h k = k
over-miscounted (SeatsLine f shape) line h k = k
over-miscounted (ShapeLine f) line h k = k
over-miscounted (OpeningLine f shape) line h k = k
over-miscounted (CellCount f) line h k = k
over-miscounted (CellLine f left from) line h k = k
over-miscounted (EntryCount f) line h k = k
over-miscounted Nothing line h k = k

over-outcome : (due : Due) (line : List (List ℕ)) → IsOver due line → IsBadOutcome due line → ⊥
over-outcome (EntryLine f left) line h k = h
over-outcome (EndLine f) line h k = k
over-outcome Header line h k = k
over-outcome ProtocolLine line h k = k
over-outcome (SeatsLine f shape) line h k = k
over-outcome (ShapeLine f) line h k = k
over-outcome (OpeningLine f shape) line h k = k
over-outcome (CellCount f) line h k = k
over-outcome (CellLine f left from) line h k = k
over-outcome (EntryCount f) line h k = k
over-outcome Nothing line h k = k

miscounted-outcome : (due : Due) (line : List (List ℕ)) → IsMiscounted due line → IsBadOutcome due line → ⊥
miscounted-outcome (EntryLine f left) line h k = owned-two k.owner k.step _ k.fits (sym k.spelled ∙ h)
miscounted-outcome (EndLine f) line h k = k
miscounted-outcome Header line h k = k
miscounted-outcome ProtocolLine line h k = k
miscounted-outcome (SeatsLine f shape) line h k = k
miscounted-outcome (ShapeLine f) line h k = k
miscounted-outcome (OpeningLine f shape) line h k = k
miscounted-outcome (CellCount f) line h k = k
miscounted-outcome (CellLine f left from) line h k = k
miscounted-outcome (EntryCount f) line h k = k
miscounted-outcome Nothing line h k = k

-- a protocol is due where none of the others is
only-unknown : (due : Due) (line : List (List ℕ)) (kind : ReadKind) → IsUnknown due line → IsFaultOfLine due line kind → kind ≡ UnknownProtocol
only-unknown ProtocolLine line UnknownProtocol h k = refl
only-unknown ProtocolLine line OverLimit h k = absurd k
only-unknown ProtocolLine line BadHeader h k = let no = k.0 in absurd (cc)
only-unknown ProtocolLine line CountDiffers h k = absurd k
only-unknown ProtocolLine line BadOutcome h k = absurd k
only-unknown ProtocolLine line BadLine h k = absurd (k.known h)
only-unknown ProtocolLine line Truncated h k = absurd k
only-unknown ProtocolLine line NoMemory h k = absurd k
only-unknown ProtocolLine line Device h k = absurd k
only-unknown Header line kind h k = absurd h
only-unknown (ShapeLine f) line kind h k = absurd h
only-unknown (SeatsLine f shape) line kind h k = absurd h
only-unknown (OpeningLine f shape) line kind h k = absurd h
only-unknown (CellCount f) line kind h k = absurd h
only-unknown (CellLine f left from) line kind h k = absurd h
only-unknown (EntryCount f) line kind h k = absurd h
only-unknown (EntryLine f left) line kind h k = absurd h
only-unknown (EndLine f) line kind h k = absurd h
only-unknown Nothing line kind h k = absurd h

abbrev OneFault : Due → List (List ℕ) → ReadKind → ReadKind → Type 0
OneFault due line one other = IsFaultOfLine due line one → IsFaultOfLine due line other → one ≡ other

one-fault_of_line : (due : Due) (line : List (List ℕ)) (one other : ReadKind) → OneFault due line one other
one-fault_of_line due line OverLimit OverLimit h k = refl
one-fault_of_line due line OverLimit BadHeader h k = absurd (header-over due line k.0 h)
one-fault_of_line due line OverLimit CountDiffers h k = absurd (over-miscounted due line h k)
one-fault_of_line due line OverLimit BadOutcome h k = absurd (over-outcome due line h k)
one-fault_of_line due line OverLimit BadLine h k = absurd (k.not_over h)
one-fault_of_line due line OverLimit UnknownProtocol h k = only-unknown due line OverLimit k h
one-fault_of_line due line OverLimit Truncated h k = absurd k
one-fault_of_line due line OverLimit NoMemory h k = absurd k
one-fault_of_line due line OverLimit Device h k = absurd k
one-fault_of_line due line BadHeader OverLimit h k = absurd (header-over due line h.0 k)
one-fault_of_line due line BadHeader BadHeader h k = refl
one-fault_of_line due line BadHeader CountDiffers h k = absurd (header-miscounted due line h.0 k)
one-fault_of_line due line BadHeader BadOutcome h k = absurd (header-outcome due line h.0 k)
one-fault_of_line due line BadHeader BadLine h k = absurd (k.behind_header h.0)
one-fault_of_line due line BadHeader UnknownProtocol h k = only-unknown due line BadHeader k h
one-fault_of_line due line BadHeader Truncated h k = absurd k
one-fault_of_line due line BadHeader NoMemory h k = absurd k
one-fault_of_line due line BadHeader Device h k = absurd k
one-fault_of_line due line CountDiffers OverLimit h k = absurd (over-miscounted due line k h)
one-fault_of_line due line CountDiffers BadHeader h k = absurd (header-miscounted due line k.0 h)
one-fault_of_line due line CountDiffers CountDiffers h k = refl
one-fault_of_line due line CountDiffers BadOutcome h k = absurd (miscounted-outcome due line h k)
one-fault_of_line due line CountDiffers BadLine h k = absurd (k.not_miscounted h)
one-fault_of_line due line CountDiffers UnknownProtocol h k = only-unknown due line CountDiffers k h
one-fault_of_line due line CountDiffers Truncated h k = absurd k
one-fault_of_line due line CountDiffers NoMemory h k = absurd k
one-fault_of_line due line CountDiffers Device h k = absurd k
one-fault_of_line due line BadOutcome OverLimit h k = absurd (over-outcome due line k h)
one-fault_of_line due line BadOutcome BadHeader h k = absurd (header-outcome due line k.0 h)
one-fault_of_line due line BadOutcome CountDiffers h k = absurd (miscounted-outcome due line k h)
one-fault_of_line due line BadOutcome BadOutcome h k = refl
one-fault_of_line due line BadOutcome BadLine h k = absurd (k.no_bad_outcome h)
one-fault_of_line due line BadOutcome UnknownProtocol h k = only-unknown due line BadOutcome k h
one-fault_of_line due line BadOutcome Truncated h k = absurd k
one-fault_of_line due line BadOutcome NoMemory h k = absurd k
one-fault_of_line due line BadOutcome Device h k = absurd k
one-fault_of_line due line BadLine OverLimit h k = absurd (h.not_over k)
one-fault_of_line due line BadLine BadHeader h k = absurd (h.behind_header k.0)
one-fault_of_line due line BadLine CountDiffers h k = absurd (h.not_miscounted k)
one-fault_of_line due line BadLine BadOutcome h k = absurd (h.no_bad_outcome k)
one-fault_of_line due line BadLine BadLine h k = refl
one-fault_of_line due line BadLine UnknownProtocol h k = only-unknown due line BadLine k h
one-fault_of_line due line BadLine Truncated h k = absurd k
one-fault_of_line due line BadLine NoMemory h k = absurd k
one-fault_of_line due line BadLine Device h k = absurd k
one-fault_of_line due line UnknownProtocol other h k = sym (only-unknown due line other h k)
one-fault_of_line due line Truncated other h k = absurd h
one-fault_of_line due line NoMemory other h k = absurd h
one-fault_of_line due line Device other h k = absurd h

-- ---- one fault

long-line : (due : Due) (bytes : List ℕ) (kind : ReadKind) → IsTooLong (limit due) bytes → BeginsFaulty due bytes kind → ⊥
long-line due bytes kind h k =
    let short : length k.line < limit due + 1 = omega (arith, k.short) in line-ends_within (limit due + 1) k.line k.behind bytes k.stands short h.no_end

ends-line : (due : Due) (bytes : List ℕ) (kind : ReadKind) → IsUnfinished (limit due) bytes → BeginsFaulty due bytes kind → ⊥
ends-line due bytes kind h k = line-ends_in k.line k.behind bytes k.stands h.no_end

ends-long : (most : ℕ) (bytes : List ℕ) → IsUnfinished most bytes → IsTooLong most bytes → ⊥
ends-long most bytes h k = absurd (omega (arith, h.short, k.long))

nothing-fault : (due : Due) (line : List (List ℕ)) (kind : ReadKind) → due ≡ Nothing → IsFaultOfLine due line kind → kind ≡ BadLine
nothing-fault due line OverLimit is h = absurd (subst (λ d. IsFaultOfLine d line OverLimit) is h)
nothing-fault due line BadHeader is h = let no : Nothing ≡ Header = sym is ∙ h.0 in absurd (cc)
nothing-fault due line CountDiffers is h = absurd (subst (λ d. IsFaultOfLine d line CountDiffers) is h)
nothing-fault due line BadOutcome is h = absurd (subst (λ d. IsFaultOfLine d line BadOutcome) is h)
nothing-fault due line BadLine is h = refl
nothing-fault due line UnknownProtocol is h = absurd (subst (λ d. IsFaultOfLine d line UnknownProtocol) is h)
nothing-fault due line Truncated is h = absurd h
nothing-fault due line NoMemory is h = absurd h
nothing-fault due line Device is h = absurd h

one-line : (due : Due) (bytes : List ℕ) (one other : ReadKind) → BeginsFaulty due bytes one → BeginsFaulty due bytes other → one ≡ other
one-line due bytes one other h k =
    let same = one-line_first h.line k.line h.behind k.behind h.no_end k.no_end (sym h.stands ∙ k.stands) in
    one-fault_of_line due (words k.line) one other (subst (λ l. IsFaultOfLine due (words l) one) same.0 h.fault) k.fault

one-fault : (due : Due) (bytes : List ℕ) (one other : ReadKind) → ¬ IsOutside one → ¬ IsOutside other → Fault due bytes one → Fault due bytes other →
    one ≡ other
one-fault due bytes one other p q (outside h) k = absurd (p h)
one-fault due bytes one other p q (ends a x h) (outside k) = absurd (q k)
one-fault due bytes one other p q (ends a x h) (ends b y k) = a ∙ sym b
one-fault due bytes one other p q (ends a x h) (long b y k) = absurd (ends-long (limit due) bytes h k)
one-fault due bytes one other p q (ends a x h) (begins k) = absurd (ends-line due bytes other h k)
one-fault due bytes one other p q (ends a x h) (behind b y k) = absurd (x y)
one-fault due bytes one other p q (long a x h) (outside k) = absurd (q k)
one-fault due bytes one other p q (long a x h) (ends b y k) = absurd (ends-long (limit due) bytes k h)
one-fault due bytes one other p q (long a x h) (long b y k) = a ∙ sym b
one-fault due bytes one other p q (long a x h) (begins k) = absurd (long-line due bytes other h k)
one-fault due bytes one other p q (long a x h) (behind b y k) = absurd (x y)
one-fault due bytes one other p q (begins h) (outside k) = absurd (q k)
one-fault due bytes one other p q (begins h) (ends b y k) = absurd (ends-line due bytes one k h)
one-fault due bytes one other p q (begins h) (long b y k) = absurd (long-line due bytes one k h)
one-fault due bytes one other p q (begins h) (begins k) = one-line due bytes one other h k
one-fault due bytes one other p q (begins h) (behind b y k) = nothing-fault due (words h.line) one y h.fault ∙ sym b
one-fault due bytes one other p q (behind a x h) (outside k) = absurd (q k)
one-fault due bytes one other p q (behind a x h) (ends b y k) = absurd (y x)
one-fault due bytes one other p q (behind a x h) (long b y k) = absurd (y x)
one-fault due bytes one other p q (behind a x h) (begins k) = a ∙ sym (nothing-fault due (words k.line) other x k.fault)
one-fault due bytes one other p q (behind a x h) (behind b y k) = a ∙ sym b

one-place : (due last final : Due) (xs ys : List (List ℕ)) (bytes others : List ℕ) (one other : ReadKind) → IsDue due → Follow due xs last →
    Follow due ys final → flat_map ended xs ++ bytes ≡ flat_map ended ys ++ others
    → ¬ IsOutside one → ¬ IsOutside other → Fault last bytes one → Fault final others other → (length xs ≡ length ys) × (one ≡ other)
one-place due last final [] [] bytes others one other is f g e p q h k =
    (refl, one-fault final others one other p q (subst (λ d. Fault d others one) (sym f ∙ g) (subst (λ b. Fault last b one) e h)) k)
one-place due last final [] (y ∷ ys) bytes others one other is f g e p q h k =
    let begin = e ∙ append_assoc (ended y) (flat_map ended ys) others in
    absurd (p (good-outside due g.0 y (flat_map ended ys ++ others) bytes one is g.1 begin (subst (λ d. Fault d bytes one) (sym f) h)))
one-place due last final (x ∷ xs) [] bytes others one other is f g e p q h k =
    let begin = sym e ∙ append_assoc (ended x) (flat_map ended xs) bytes in
    absurd (q (good-outside due f.0 x (flat_map ended xs ++ bytes) others other is f.1 begin (subst (λ d. Fault d others other) (sym g) k)))
one-place due last final (x ∷ xs) (y ∷ ys) bytes others one other is f g e p q h k =
    let same =
    one-line_first x y (flat_map ended xs ++ bytes) (flat_map ended ys ++ others) (good-open due x f.0 is f.1) (good-open due y g.0 is g.1)
    (sym (append_assoc (ended x) (flat_map ended xs) bytes) ∙ e ∙ append_assoc (ended y) (flat_map ended ys) others) in
    let next : g.0 ≡ f.0 = leads-one due (words x) g.0 f.0 (subst (λ l. Leads due (words l) g.0) (sym same.0) g.1) f.1 in
    let rest =
    one-place f.0 last final xs ys bytes others one other (leads-due due (words x) f.0 is f.1) f.2 (subst (λ d. Follow d ys final) next g.2) same.1 p q h k in
    (ap suc rest.0, rest.1)

-- two refusals of the same bytes are one, where the bytes are at fault
pub one-refusal : (bytes : List ℕ) (end finish : Option (List ℕ)) (line place : ℕ) (one other : ReadKind) →
    IsRefused (Some bytes) end 0 Header line one → IsRefused (Some bytes) finish 0 Header place other
    → ¬ IsOutside one → ¬ IsOutside other → (line ≡ place) × (one ≡ other)
one-refusal bytes None finish line place one other r s p q = absurd r.read
one-refusal bytes (Some more) None line place one other r s p q = absurd s.read
one-refusal bytes (Some more) (Some left) line place one other r s p q =
    let same = one-place Header r.last s.last r.lines s.lines (r.rest ++ more) (s.rest ++ left) one other tt r.follow s.follow
    (sym (append_assoc (flat_map ended r.lines) r.rest more) ∙ sym r.read ∙ s.read ∙ append_assoc (flat_map ended s.lines) s.rest left) p q
    (fault-of r.last r.rest more one r.fault) (fault-of s.last s.rest left other s.fault) in
    (omega (arith, r.number, s.number, same.0), same.1)
