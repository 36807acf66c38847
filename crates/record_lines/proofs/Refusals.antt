-- Texts that are refused: where, and as what.
use Rattle.std.proofs.Common.{◌≡◌, ◌≢◌, inl, inr, ◌≤◌, ◌+◌, ℕ, List, [], ◌∷◌, ◌++◌, Option, Some, None, length, refl, ap, sym, subst, ◌∙◌, arith}
use Rattle.std.proofs.Common.{length-append, append_assoc, append-nil}
use Rattle.std.specs.List.{flat_map}
use Rattle.std.proofs.lemmas.List.{take-append-le}
use Rattle.base.specs.Words.{words}
use Rattle.record_lines.specs.declared.fault.ReadKind.{ReadKind}
use Rattle.record_lines.specs.declared.fault.ReadKind.TheVariants.{BadHeader, BadLine, Truncated, CountDiffers, BadOutcome, OverLimit, NoMemory, Device}
use Rattle.record_lines.specs.declared.fault.ReadKind.TheVariants.{UnknownProtocol}
use Rattle.record_lines.specs.declared.due.Due.{Due}
use Rattle.record_lines.specs.declared.due.Due.TheVariants.{Header, Nothing}
use Rattle.record_lines.specs.Grammar.{Leads, Follow}
use Rattle.record_lines.specs.Refused.{ended, limit, HasNoEnd, IsFaultOfLine, BeginsFaulty, IsTooLong, IsUnfinished, IsFaultOfRest, IsRefused}
use Rattle.record_lines.specs.Refused.{IsWellFormed, IsOutside}
use Rattle.record_lines.proofs.Legible.{joined-open}
use Rattle.record_lines.proofs.Ending.{some-line, line-ends_in, line-ends_within, one-line_first}
use Rattle.record_lines.proofs.Leading.{IsDue, leads-line, leads-short, leads-due, leads-one}
use Rattle.record_lines.proofs.Faulting.{fault-not_good}
use Rattle.record_lines.proofs.Words.{spelled-text}

-- the fault of all bytes that follow, whether they were read or not
pub data Fault (due : Due) (bytes : List ℕ) (kind : ReadKind) : Type 0 where
  ends : kind ≡ Truncated → due ≢ Nothing → IsUnfinished (limit due) bytes → Fault due bytes kind
  long : kind ≡ OverLimit → due ≢ Nothing → IsTooLong (limit due) bytes → Fault due bytes kind
  begins : BeginsFaulty due bytes kind → Fault due bytes kind
  behind : kind ≡ BadLine → due ≡ Nothing → bytes ≢ [] → Fault due bytes kind
  outside : IsOutside kind → Fault due bytes kind

longer : (most : ℕ) (rest more : List ℕ) → IsTooLong most rest → IsTooLong most (rest ++ more)
longer most rest more h = record {
  long = omega (arith, h.long, length-append rest more);
  no_end = subst HasNoEnd (sym (take-append-le (most + 1) rest more (omega (arith, h.long)))) h.no_end;
}

begins-more : (due : Due) (rest more : List ℕ) (kind : ReadKind) → BeginsFaulty due rest kind → BeginsFaulty due (rest ++ more) kind
begins-more due rest more kind h = record {
  line = h.line;
  behind = h.behind ++ more;
  stands = ap (λ l. l ++ more) h.stands ∙ append_assoc (ended h.line) h.behind more;
  no_end = h.no_end;
  short = h.short;
  fault = h.fault;
}

some-more : (rest more : List ℕ) → rest ≢ [] → rest ++ more ≢ []
some-more [] more h e = h refl
some-more (b ∷ bs) more h e = cc

pub fault-of : (due : Due) (rest more : List ℕ) (kind : ReadKind) → IsFaultOfRest due rest (Some more) kind → Fault due (rest ++ more) kind
fault-of due rest more Truncated h = ends refl h.0 (subst (IsUnfinished (limit due)) (sym (append-nil rest) ∙ ap (λ l. rest ++ l) (sym h.2)) h.1)
fault-of due rest more OverLimit (inl h) = long refl h.0 (longer (limit due) rest more h.1)
fault-of due rest more OverLimit (inr h) = begins (begins-more due rest more OverLimit h)
fault-of due rest more BadLine (inl h) = behind refl h.0 (some-more rest more h.1)
fault-of due rest more BadLine (inr h) = begins (begins-more due rest more BadLine h)
fault-of due rest more NoMemory h = outside (inl refl)
fault-of due rest more Device h = outside (inr refl)
fault-of due rest more BadHeader h = begins (begins-more due rest more BadHeader h)
fault-of due rest more CountDiffers h = begins (begins-more due rest more CountDiffers h)
fault-of due rest more BadOutcome h = begins (begins-more due rest more BadOutcome h)
fault-of due rest more UnknownProtocol h = begins (begins-more due rest more UnknownProtocol h)

-- ---- bytes that begin with a well formed line

pub good-open : (due : Due) (l : List ℕ) (next : Due) → IsDue due → Leads due (words l) next → HasNoEnd l
good-open due l next is leads = subst HasNoEnd (sym (spelled-text l (words l) refl)) (joined-open (words l) (leads-line due (words l) next is leads))

good-short : (due : Due) (l : List ℕ) (next : Due) → IsDue due → Leads due (words l) next → length l ≤ limit due
good-short due l next is leads = omega (arith, ap length (spelled-text l (words l) refl), leads-short due (words l) next is leads)

pub good-outside : (due next : Due) (l more bytes : List ℕ) (kind : ReadKind) → IsDue due → Leads due (words l) next → bytes ≡ ended l ++ more →
    Fault due bytes kind → IsOutside kind
good-outside due next l more bytes kind is leads begin (ends k some h) = absurd (line-ends_in l more bytes begin h.no_end)
good-outside due next l more bytes kind is leads begin (long k some h) =
    let short = good-short due l next is leads in
    absurd (line-ends_within (limit due + 1) l more bytes begin (omega (arith, short)) h.no_end)
good-outside due next l more bytes kind is leads begin (begins h) =
    let same = one-line_first h.line l h.behind more h.no_end (good-open due l next is leads) (sym h.stands ∙ begin) in
    absurd (fault-not_good due (words l) next kind is leads (subst (λ x. IsFaultOfLine due (words x) kind) same.0 h.fault))
good-outside due next l more bytes kind is leads begin (behind k none h) = absurd (subst (λ d. Leads d (words l) next) none leads)
good-outside due next l more bytes kind is leads begin (outside h) = h

-- ---- no bytes, where nothing is due

empty-outside : (due : Due) (bytes : List ℕ) (kind : ReadKind) → due ≡ Nothing → bytes ≡ [] → Fault due bytes kind → IsOutside kind
empty-outside due bytes kind none empty (ends k some h) = absurd (some none)
empty-outside due bytes kind none empty (long k some h) = absurd (some none)
empty-outside due bytes kind none empty (begins h) = absurd (some-line h.line h.behind (sym empty ∙ h.stands))
empty-outside due bytes kind none empty (behind k done h) = absurd (h empty)
empty-outside due bytes kind none empty (outside h) = h

-- ---- whole texts

whole-outside : (due last : Due) (xs ys : List (List ℕ)) (bytes : List ℕ) (kind : ReadKind) → IsDue due → Follow due xs Nothing → Follow due ys last →
    flat_map ended xs ≡ flat_map ended ys ++ bytes → Fault last bytes kind → IsOutside kind
whole-outside due last [] [] bytes kind is f g e h = empty-outside last bytes kind (sym g ∙ f) (sym e) h
whole-outside due last [] (y ∷ ys) bytes kind is f g e h = absurd (subst (λ d. Leads d (words y) g.0) f g.1)
whole-outside due last (x ∷ xs) [] bytes kind is f g e h =
    good-outside due f.0 x (flat_map ended xs) bytes kind is f.1 (sym e) (subst (λ d. Fault d bytes kind) (sym g) h)
whole-outside due last (x ∷ xs) (y ∷ ys) bytes kind is f g e h =
    let same =
    one-line_first x y (flat_map ended xs) (flat_map ended ys ++ bytes) (good-open due x f.0 is f.1) (good-open due y g.0 is g.1)
    (e ∙ append_assoc (ended y) (flat_map ended ys) bytes) in
    let next : g.0 ≡ f.0 = leads-one due (words x) g.0 f.0 (subst (λ l. Leads due (words l) g.0) (sym same.0) g.1) f.1 in
    whole-outside f.0 last xs ys bytes kind (leads-due due (words x) f.0 is f.1) f.2 (subst (λ d. Follow d ys last) next g.2) same.1 h

-- a whole text is refused only for want of memory or by a device
pub whole-refused : (bytes : List ℕ) (after end : Option (List ℕ)) (line : ℕ) (kind : ReadKind) → IsWellFormed (Some bytes) after →
    IsRefused (Some bytes) end 0 Header line kind → IsOutside kind
whole-refused bytes None end line kind w r = absurd w.read
whole-refused bytes (Some left) None line kind w r = absurd r.read
whole-refused bytes (Some left) (Some more) line kind w r =
    let all : bytes ≡ flat_map ended w.lines = w.read ∙ ap (λ l. flat_map ended w.lines ++ l) w.end ∙ append-nil (flat_map ended w.lines) in
    whole-outside Header r.last w.lines r.lines (r.rest ++ more) kind tt w.follow r.follow
    (sym all ∙ r.read ∙ append_assoc (flat_map ended r.lines) r.rest more) (fault-of r.last r.rest more kind r.fault)

-- ---- no whole text stands before other bytes

alone : (due : Due) (xs ys : List (List ℕ)) (more : List ℕ) → IsDue due → Follow due xs Nothing → Follow due ys Nothing →
    flat_map ended xs ≡ flat_map ended ys ++ more → more ≡ []
alone due [] [] more is f g e = sym e
alone due [] (y ∷ ys) more is f g e = absurd (subst (λ d. Leads d (words y) g.0) f g.1)
alone due (x ∷ xs) [] more is f g e = absurd (subst (λ d. Leads d (words x) f.0) g f.1)
alone due (x ∷ xs) (y ∷ ys) more is f g e =
    let same =
    one-line_first x y (flat_map ended xs) (flat_map ended ys ++ more) (good-open due x f.0 is f.1) (good-open due y g.0 is g.1)
    (e ∙ append_assoc (ended y) (flat_map ended ys) more) in
    let next : g.0 ≡ f.0 = leads-one due (words x) g.0 f.0 (subst (λ l. Leads due (words l) g.0) (sym same.0) g.1) f.1 in
    alone f.0 xs ys more (leads-due due (words x) f.0 is f.1) f.2 (subst (λ d. Follow d ys Nothing) next g.2) same.1

pub whole-alone : (bytes front more : List ℕ) → IsWellFormed (Some bytes) (Some []) → IsWellFormed (Some front) (Some []) → bytes ≡ front ++ more → more ≡ []
whole-alone bytes front more w v e =
    alone Header w.lines v.lines more tt w.follow v.follow
    (sym (append-nil (flat_map ended w.lines)) ∙ sym w.read ∙ e ∙ ap (λ l. l ++ more) (v.read ∙ append-nil (flat_map ended v.lines)))
