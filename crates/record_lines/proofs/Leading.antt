-- Lines that are well formed where they are due.
use Rattle.std.proofs.Common.{◌≡◌, true, ◌≤◌, ◌<◌, ◌+◌, ◌-◌, ◌^◌, ℕ, zero, suc, List, [], ◌∷◌, Option, Some, None, get_or, length, map, refl, ap}
use Rattle.std.proofs.Common.{sym, subst, ◌∙◌, arith}
use Rattle.std.proofs.Common.{codes, length-append}
use Rattle.std.specs.List.{AllByRecursion}
use Rattle.std.specs.Fmt.{decimal}
use Rattle.std.proofs.lemmas.Fmt.{decimal_injective}
use Rattle.std.proofs.lemmas.List.{length-map}
use Rattle.std.proofs.lemmas.List.Elements.{recursion_from_All}
use Rattle.base.specs.Extent.{Extent, IsWithinLimits}
use Rattle.base.specs.declared.step.Ask.{Ask}
use Rattle.base.specs.declared.step.Ask.TheVariants.{Load, Store, Replace}
use Rattle.base.specs.declared.step.Step.{Step}
use Rattle.base.specs.declared.step.Step.TheVariants as step
use Rattle.base.specs.declared.step.Outcome.{Outcome}
use Rattle.base.specs.declared.step.Outcome.TheVariants as outcome
use Rattle.base.specs.Spelling.{ask_words, step_words, outcome_words, is_name, FitsAsk, FitsStep, FitsOutcome}
use Rattle.base.specs.Entries.{HasFewActions}
use Rattle.base.specs.Entries as entries
use Rattle.base.specs.declared.controller.entry.CellEntry as table_cell
use Rattle.base.specs.declared.controller.entry.CellEntry.TheVariants as table_entry
use Rattle.cache_table.specs.Names as cache_names
use Rattle.cache_table.specs.inner.Standing as cache_standing
use Rattle.directory_table.specs.Names as directory_names
use Rattle.directory_table.specs.inner.Standing as directory_standing
use Rattle.tables.specs.CellPlaces.{place_number}
use Rattle.record_lines.specs.declared.cells.Cell.{Cell}
use Rattle.record_lines.specs.declared.cells.Cell.TheVariants as cell
use Rattle.record_lines.specs.declared.entry.Entry.{Entry}
use Rattle.record_lines.specs.Cells.{cell_words, most_cells, FitsCell}
use Rattle.record_lines.specs.Text.{by_words, header_words, shape_words, opening_words, entry_words, told_words}
use Rattle.base.specs.Words.{joined}
use Rattle.base.specs.declared.controller.protocol.Protocol.{Protocol}
use Rattle.base.specs.declared.controller.protocol.Protocol.TheVariants.{Msi, MsiE}
use Rattle.record_lines.specs.declared.due.Due.{Due}
use Rattle.record_lines.specs.declared.due.TextHead.{TextHead}
use Rattle.record_lines.specs.declared.told.Told.{Told}
use Rattle.record_lines.specs.declared.version.Version.{Version}
use Rattle.record_lines.specs.declared.version.Version.TheVariants.{One, Two}
use Rattle.record_lines.specs.Refused.{limit}
use Rattle.record_lines.specs.Versions.{form, header_leads, shape_leads_in, most_blocks, most_bytes, protocol_words, IsShapeIn}
use Rattle.record_lines.specs.declared.due.Due.TheVariants.{Header, ProtocolLine, ShapeLine, SeatsLine, OpeningLine, CellCount, CellLine, EntryCount}
use Rattle.record_lines.specs.declared.due.Due.TheVariants.{EntryLine, EndLine, Nothing}
use Rattle.record_lines.specs.Grammar.{cells_due, entries_due, AreValues, FitsEntry, FitsTold, IsOwner, Leads}
use Rattle.record_lines.proofs.Alike.{same-place}
use Rattle.record_lines.proofs.Legible.{IsWord, IsLine, all-append, joined-short, text-word, name-word, number-word}

-- a protocol has no more cells than there are places
pub few-most : (p : Protocol) → most_cells p ≤ 184
few-most Msi = omega arith
few-most MsiE = omega arith

-- ---- the words of each line

ask-line : (a : Ask) → FitsAsk a → AllByRecursion IsWord (ask_words a) × (length (ask_words a) ≤ 2)
ask-line Load f = ((text-word _ refl (omega arith), tt), omega arith)
ask-line (Store value) f = ((text-word _ refl (omega arith), (number-word value f, tt)), omega arith)
ask-line Replace f = ((text-word _ refl (omega arith), tt), omega arith)

narrow : (n : ℕ) → n < 2 ^ 32 → n < 2 ^ 64
narrow n low = omega (arith, low)

pub step-line : (s : Step) → FitsStep s → AllByRecursion IsWord (step_words s) × (0 < length (step_words s)) × (length (step_words s) ≤ 5)
step-line (step.Ask c b a) f =
    let asked = ask-line a f.2 in
    ((text-word _ refl (omega arith), (number-word c.0 (narrow c.0 f.0), (number-word b.0 (narrow b.0 f.1), asked.0))), omega arith, omega (arith, asked.1))
step-line (step.Request b i) f = ((text-word _ refl (omega arith), (number-word b.0 (narrow b.0 f.0), (number-word i f.1, tt))), omega arith, omega arith)
step-line (step.Forward b c) f =
    ((text-word _ refl (omega arith), (number-word b.0 (narrow b.0 f.0), (number-word c.0 (narrow c.0 f.1), tt))), omega arith, omega arith)
step-line (step.Response b i) f = ((text-word _ refl (omega arith), (number-word b.0 (narrow b.0 f.0), (number-word i f.1, tt))), omega arith, omega arith)

outcome-line : (o : Outcome) → FitsOutcome o → AllByRecursion IsWord (outcome_words o) × (length (outcome_words o) ≤ 3)
outcome-line outcome.Sent f = ((text-word _ refl (omega arith), tt), omega arith)
outcome-line outcome.Moved f = ((text-word _ refl (omega arith), tt), omega arith)
outcome-line (outcome.Load c v) f = ((text-word _ refl (omega arith), (number-word c.0 (narrow c.0 f.0), (number-word v f.1, tt))), omega arith)
outcome-line (outcome.Store c v) f = ((text-word _ refl (omega arith), (number-word c.0 (narrow c.0 f.0), (number-word v f.1, tt))), omega arith)
outcome-line outcome.Held f = ((text-word _ refl (omega arith), tt), omega arith)
outcome-line outcome.Absent f = ((text-word _ refl (omega arith), tt), omega arith)
outcome-line outcome.Idle f = ((text-word _ refl (omega arith), tt), omega arith)
outcome-line outcome.Blank f = ((text-word _ refl (omega arith), tt), omega arith)
outcome-line outcome.Broken f = ((text-word _ refl (omega arith), tt), omega arith)

pub entry-line : (e : Entry) → FitsEntry e → IsLine (entry_words e)
entry-line e f =
    let first = step-line e.step f.0 in
    let second = outcome-line e.outcome f.1 in
    let n = length-append (step_words e.step) (codes "=" ∷ outcome_words e.outcome) in
    record {
      each = all-append IsWord (step_words e.step) (codes "=" ∷ outcome_words e.outcome) first.0 (text-word _ refl (omega arith), second.0);
      some = omega (arith, n);
      few = omega (arith, n, first.2, second.1);
    }

names-words : {A : Type 0} (name : A → List ℕ) → ((x : A) → is_name (name x) ≡ true) → (xs : List A) → AllByRecursion IsWord (map name xs)
names-words name plain [] = tt
names-words name plain (x ∷ xs) = (name-word (name x) (plain x), names-words name plain xs)

table_entry-line : {S A : Type 0} (state : S → List ℕ) (action : A → List ℕ) → ((s : S) → is_name (state s) ≡ true) →
    ((a : A) → is_name (action a) ≡ true) → (x : table_cell.CellEntry S A) → HasFewActions x →
    AllByRecursion IsWord (entries.entry_words state action x) × (length (entries.entry_words state action x) ≤ 10)
table_entry-line state action plain_states plain_actions table_entry.Blank f = ((text-word _ refl (omega arith), tt), omega arith)
table_entry-line state action plain_states plain_actions table_entry.Stall f = ((text-word _ refl (omega arith), tt), omega arith)
table_entry-line state action plain_states plain_actions (table_entry.Act next actions) f = (
  (text-word _ refl (omega arith), (name-word (state next) (plain_states next), names-words action plain_actions actions)),
  omega (arith, length-map actions action, f),
)

pub cell-line : (c : Cell) → FitsCell c → IsLine (cell_words c)
cell-line (cell.Cache s e x) f =
    let rest = table_entry-line cache_names.state_name cache_names.action_name cache_standing.state_plain cache_standing.action_plain x f in
    record {
      each = (
        text-word _ refl (omega arith),
        (text-word _ refl (omega arith), (name-word _ (cache_standing.state_plain s), (name-word _ (cache_standing.event_plain e), rest.0))),
      );
      some = omega arith;
      few = omega (arith, rest.1);
    }
cell-line (cell.Directory s e x) f =
    let rest = table_entry-line directory_names.state_name directory_names.action_name directory_standing.state_plain directory_standing.action_plain x f in
    record {
      each = (
        text-word _ refl (omega arith),
        (text-word _ refl (omega arith), (name-word _ (directory_standing.state_plain s), (name-word _ (directory_standing.event_plain e), rest.0))),
      );
      some = omega arith;
      few = omega (arith, rest.1);
    }

-- ---- the same with an owner

by-line : (seats : ℕ) (o : Option ℕ) → seats ≤ 64 → IsOwner seats o → AllByRecursion IsWord (by_words o) × (length (by_words o) ≤ 2)
by-line seats None few h = (tt, omega arith)
by-line seats (Some seat) few h = ((text-word _ refl (omega arith), (number-word seat (omega (arith, few, h)), tt)), omega arith)

pub told-line : (seats : ℕ) (t : Told) → seats ≤ 64 → FitsTold seats t → IsLine (told_words t) × (length (told_words t) ≤ 20)
told-line seats t few f =
    let first = by-line seats t.owner few f.0 in
    let step = step-line t.entry.step f.1.0 in
    let outcome = outcome-line t.entry.outcome f.1.1 in
    let second = entry-line t.entry f.1 in
    let n = length-append (by_words t.owner) (entry_words t.entry) in
    let m = length-append (step_words t.entry.step) (codes "=" ∷ outcome_words t.entry.outcome) in (
      record {
        each = all-append IsWord (by_words t.owner) (entry_words t.entry) first.0 second.each;
        some = omega (arith, n, second.some);
        few = omega (arith, n, m, first.1, step.2, outcome.1);
      },
      omega (arith, n, m, first.1, step.2, outcome.1),
    )

cell-few : (c : Cell) → FitsCell c → length (cell_words c) ≤ 20
cell-few (cell.Cache s e x) f =
    omega (arith, (table_entry-line cache_names.state_name cache_names.action_name cache_standing.state_plain cache_standing.action_plain x f).1)
cell-few (cell.Directory s e x) f =
    omega (
      arith,
      (table_entry-line directory_names.state_name directory_names.action_name directory_standing.state_plain directory_standing.action_plain x f).1,
    )

protocol-line : (p : Protocol) → IsLine (protocol_words p)
protocol-line Msi = record { each = (text-word _ refl (omega arith), (text-word _ refl (omega arith), tt)); some = omega arith; few = omega arith }
protocol-line MsiE = record { each = (text-word _ refl (omega arith), (text-word _ refl (omega arith), tt)); some = omega arith; few = omega arith }

header-line : (v : Version) → IsLine (header_words v)
header-line One = record { each = (text-word _ refl (omega arith), (text-word _ refl (omega arith), tt)); some = omega arith; few = omega arith }
header-line Two = record { each = (text-word _ refl (omega arith), (text-word _ refl (omega arith), tt)); some = omega arith; few = omega arith }

-- a name and a number
count-line : (name : List ℕ) (n : ℕ) → IsWord name → n < 2 ^ 64 → IsLine (name ∷ decimal n ∷ [])
count-line name n word low = record { each = (word, (number-word n low, tt)); some = omega arith; few = omega arith }

shape-line : (shape : Extent) → IsWithinLimits shape → IsLine (shape_words shape)
shape-line shape within = record {
  each = (
    text-word _ refl (omega arith),
    (number-word shape.caches (omega (arith, within.few_caches)), (number-word shape.blocks (omega (arith, within.few_blocks)), tt)),
  );
  some = omega arith;
  few = omega arith;
}

values-words : (values : List ℕ) → AllByRecursion (λ value. value < 2 ^ 64) values → AllByRecursion IsWord (map decimal values)
values-words [] h = tt
values-words (v ∷ vs) h = (number-word v h.0, values-words vs h.1)

opening-line : (shape : Extent) (values : List ℕ) → IsWithinLimits shape → AreValues shape values → IsLine (opening_words values)
opening-line shape values within h = record {
  each = (text-word _ refl (omega arith), values-words values (recursion_from_All (λ value. value < 2 ^ 64) values h.small));
  some = omega arith;
  few = omega (arith, length-map values decimal, h.each, within.few_blocks);
}

-- ---- what is due

-- a shape is one of its version, and there are at most 64 seats
abbrev pub IsDue : Due → Type 0
IsDue Header = Unit {0}
IsDue ProtocolLine = Unit {0}
IsDue (ShapeLine f) = f.seats ≤ 64
IsDue (SeatsLine f shape) = IsShapeIn f.version shape
IsDue (OpeningLine f shape) = IsShapeIn f.version shape × (f.seats ≤ 64)
IsDue (CellCount f) = f.seats ≤ 64
IsDue (CellLine f left from) = f.seats ≤ 64
IsDue (EntryCount f) = f.seats ≤ 64
IsDue (EntryLine f left) = f.seats ≤ 64
IsDue (EndLine f) = f.seats ≤ 64
IsDue Nothing = Unit {0}

-- a line that is well formed where it is due is a line of words
pub leads-line : (due : Due) (line : List (List ℕ)) (next : Due) → IsDue due → Leads due line next → IsLine line
leads-line Header line next h l = subst IsLine (sym l.1) (header-line l.0)
leads-line ProtocolLine line next h l = subst IsLine (sym l.1) (protocol-line l.0)
leads-line (ShapeLine f) line next h l = subst IsLine (sym l.2) (shape-line l.0 l.1.within)
leads-line (SeatsLine f shape) line next h l = subst IsLine (sym l.2) (count-line (codes "seats") l.0 (text-word _ refl (omega arith)) (omega (arith, l.1)))
leads-line (OpeningLine f shape) line next h l = subst IsLine (sym l.2) (opening-line shape l.0 h.0.within l.1)
leads-line (CellCount f) line next h l = subst IsLine (sym l.2)
    (count-line (codes "cells") l.0 (text-word _ refl (omega arith)) (omega (arith, l.1, few-most f.protocol)))
leads-line (CellLine f left from) line next h l = subst IsLine (sym l.2) (cell-line l.0 l.1.fits)
leads-line (EntryCount f) line next h l = subst IsLine (sym l.2) (count-line (codes "entries") l.0 (text-word _ refl (omega arith)) (omega (arith, l.1)))
leads-line (EntryLine f left) line next h l = subst IsLine (sym l.2) (told-line f.seats l.0 h l.1).0
leads-line (EndLine f) line next h l = subst IsLine (sym l.0) (record { each = (text-word _ refl (omega arith), tt); some = omega arith; few = omega arith })
leads-line Nothing line next h l = absurd l

-- ---- and it is short enough for its version

shortly : (v : Version) (line : List (List ℕ)) → IsLine line → length line ≤ most_blocks v + 100 → length (joined line) ≤ most_bytes v
shortly One line h few = omega (arith, joined-short line h, few)
shortly Two line h few = omega (arith, joined-short line h, few)

pub leads-short : (due : Due) (line : List (List ℕ)) (next : Due) → IsDue due → Leads due line next → length (joined line) ≤ limit due
leads-short Header line next h l = shortly One line (leads-line Header line next h l) (omega (arith, ap length l.1))
leads-short ProtocolLine line next h l = shortly Two line (leads-line ProtocolLine line next h l) (omega (arith, ap length l.1))
leads-short (ShapeLine f) line next h l = shortly f.version line (leads-line (ShapeLine f) line next h l) (omega (arith, ap length l.2))
leads-short (SeatsLine f shape) line next h l = shortly f.version line (leads-line (SeatsLine f shape) line next h l) (omega (arith, ap length l.2))
leads-short (OpeningLine f shape) line next h l =
    shortly f.version line (leads-line (OpeningLine f shape) line next h l)
    (omega (arith, ap length l.2, length-map l.0 decimal, l.1.each, h.0.few_blocks))
leads-short (CellCount f) line next h l = shortly f.version line (leads-line (CellCount f) line next h l) (omega (arith, ap length l.2))
leads-short (CellLine f left from) line next h l =
    shortly f.version line (leads-line (CellLine f left from) line next h l) (omega (arith, ap length l.2, cell-few l.0 l.1.fits))
leads-short (EntryCount f) line next h l = shortly f.version line (leads-line (EntryCount f) line next h l) (omega (arith, ap length l.2))
leads-short (EntryLine f left) line next h l =
    shortly f.version line (leads-line (EntryLine f left) line next h l) (omega (arith, ap length l.2, (told-line f.seats l.0 h l.1).1))
leads-short (EndLine f) line next h l = shortly f.version line (leads-line (EndLine f) line next h l) (omega (arith, ap length l.0))
leads-short Nothing line next h l = absurd l

-- ---- what is due behind it

cells-due : (f : TextHead) (n from : ℕ) → f.seats ≤ 64 → IsDue (cells_due f n from)
cells-due f zero from h = h
cells-due f (suc n) from h = h

entries-due : (f : TextHead) (n : ℕ) → f.seats ≤ 64 → IsDue (entries_due f n)
entries-due f zero h = h
entries-due f (suc n) h = h

header-due : (v : Version) → IsDue (header_leads v)
header-due One = omega arith
header-due Two = tt

shape-due : (v : Version) (f : TextHead) (shape : Extent) → f.seats ≤ 64 → IsShapeIn f.version shape → IsDue (shape_leads_in v f shape)
shape-due One f shape h within = (within, h)
shape-due Two f shape h within = within

pub leads-due : (due : Due) (line : List (List ℕ)) (next : Due) → IsDue due → Leads due line next → IsDue next
leads-due Header line next h l = subst IsDue (sym l.2) (header-due l.0)
leads-due ProtocolLine line next h l = subst IsDue (sym l.2) (omega arith)
leads-due (ShapeLine f) line next h l = subst IsDue (sym l.3) (shape-due f.version f l.0 h l.1)
leads-due (SeatsLine f shape) line next h l = subst IsDue (sym l.3) (h, l.1)
leads-due (OpeningLine f shape) line next h l = subst IsDue (sym l.3) h.1
leads-due (CellCount f) line next h l = subst IsDue (sym l.3) (cells-due f l.0 0 h)
leads-due (CellLine f left from) line next h l = subst IsDue (sym l.3) (cells-due f _ _ h)
leads-due (EntryCount f) line next h l = subst IsDue (sym l.3) (entries-due f l.0 h)
leads-due (EntryLine f left) line next h l = subst IsDue (sym l.3) (entries-due f _ h)
leads-due (EndLine f) line next h l = subst IsDue (sym l.1) tt
leads-due Nothing line next h l = absurd l

-- ---- behind a line one thing is due

pub version-same : (v w : Version) → header_words v ≡ header_words w → v ≡ w
version-same One One e = refl
version-same One Two e = let byte : 49 ≡ 50 = ap (λ l. get_or (get_or l 1 []) 0 0) e in absurd (omega (arith, byte))
version-same Two One e = let byte : 50 ≡ 49 = ap (λ l. get_or (get_or l 1 []) 0 0) e in absurd (omega (arith, byte))
version-same Two Two e = refl

pub protocol-same : (p q : Protocol) → protocol_words p ≡ protocol_words q → p ≡ q
protocol-same Msi Msi e = refl
protocol-same Msi MsiE e = let n : 3 ≡ 5 = ap (λ l. length (get_or l 1 [])) e in absurd (omega (arith, n))
protocol-same MsiE Msi e = let n : 5 ≡ 3 = ap (λ l. length (get_or l 1 [])) e in absurd (omega (arith, n))
protocol-same MsiE MsiE e = refl

pub shape-same : (s t : Extent) → IsWithinLimits s → IsWithinLimits t → shape_words s ≡ shape_words t → s ≡ t
shape-same s t h k e =
    let caches : s.caches ≡ t.caches = decimal_injective s.caches t.caches (omega (arith, h.few_caches)) (omega (arith, k.few_caches)) cc in
    let blocks : s.blocks ≡ t.blocks = decimal_injective s.blocks t.blocks (omega (arith, h.few_blocks)) (omega (arith, k.few_blocks)) cc in
    ap (λ n. let x : Extent = record { caches = n; blocks = s.blocks } in x) caches
    ∙ ap (λ n. let x : Extent = record { caches = t.caches; blocks = n } in x) blocks

pub count-same : (name : List ℕ) (m n : ℕ) → m ≤ 1000000 → n ≤ 1000000 → name ∷ decimal m ∷ [] ≡ name ∷ decimal n ∷ [] → m ≡ n
count-same name m n h k e = decimal_injective m n (omega (arith, h)) (omega (arith, k)) cc

pub leads-one : (due : Due) (line : List (List ℕ)) (a b : Due) → Leads due line a → Leads due line b → a ≡ b
leads-one Header line a b l m = l.2 ∙ ap header_leads (version-same l.0 m.0 (sym l.1 ∙ m.1)) ∙ sym m.2
leads-one ProtocolLine line a b l m = l.2 ∙ ap (λ p. ShapeLine (form Two p 0)) (protocol-same l.0 m.0 (sym l.1 ∙ m.1)) ∙ sym m.2
leads-one (ShapeLine f) line a b l m =
    l.3 ∙ ap (shape_leads_in f.version f) (shape-same l.0 m.0 l.1.within m.1.within (sym l.2 ∙ m.2)) ∙ sym m.3
leads-one (SeatsLine f shape) line a b l m =
    l.3 ∙ ap (λ n. OpeningLine (form f.version f.protocol n) shape)
    (count-same (codes "seats") l.0 m.0 (omega (arith, l.1)) (omega (arith, m.1)) (sym l.2 ∙ m.2)) ∙ sym m.3
leads-one (OpeningLine f shape) line a b l m = l.3 ∙ sym m.3
leads-one (CellCount f) line a b l m =
    l.3 ∙ ap (λ n. cells_due f n 0)
    (count-same (codes "cells") l.0 m.0 (omega (arith, l.1, few-most f.protocol)) (omega (arith, m.1, few-most f.protocol)) (sym l.2 ∙ m.2)) ∙ sym m.3
leads-one (CellLine f left from) line a b l m =
    l.3 ∙ ap (λ s. cells_due f (left - 1) (place_number s + 1)) (same-place l.0 m.0 (sym l.2 ∙ m.2)) ∙ sym m.3
leads-one (EntryCount f) line a b l m = l.3 ∙ ap (entries_due f) (count-same (codes "entries") l.0 m.0 l.1 m.1 (sym l.2 ∙ m.2)) ∙ sym m.3
leads-one (EntryLine f left) line a b l m = l.3 ∙ sym m.3
leads-one (EndLine f) line a b l m = l.1 ∙ sym m.1
leads-one Nothing line a b l m = absurd l
