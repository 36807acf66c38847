-- Entries that are taken as they lie ahead.
use Rattle.std.proofs.Common.{◌≡◌, ◌+◌, ◌-◌, ◌<◌, ℕ, zero, suc, List, [], ◌∷◌, ◌++◌, Some, None, length, refl, ap, sym, subst, ◌∙◌}
use Rattle.std.proofs.Common.{arith, length-append}
use Rattle.std.specs.Prelude.{Option, Ok}
use Rattle.base.specs.Words.{words, joined}
use Rattle.record_lines.specs.declared.due.Due.{Due}
use Rattle.record_lines.specs.declared.due.Due.TheVariants.{EntryLine}
use Rattle.record_lines.specs.declared.due.TextHead.{TextHead}
use Rattle.record.specs.declared.draft.Draft.{Draft}
use Rattle.record.specs.declared.reader.Reader.{Reader}
use Rattle.record_lines.specs.declared.entry.Entry.{Entry}
use Rattle.record_lines.specs.declared.told.Told.{Told}
use Rattle.record_lines.specs.Grammar.{entries_due, FitsEntry}
use Rattle.record_lines.specs.Text.{entry_words, told_words}
use Rattle.record.specs.View.{owner_list, with_owned, RecordingView}
use Rattle.record.specs.inner.Drafts.{lines_left, recorded, Kept, HasRead, HasRoom, HasTakenLine}
use Rattle.record.specs.inner.Readers.{IsReady, StillReads}
use Rattle.record_lines.specs.Reading.{pending, IsEntryTakenOff}
use Rattle.record.proofs.Drafting.{entry-taken}
use Rattle.record_lines.proofs.Leading.{entry-line}
use Rattle.record_lines.proofs.Legible.{words-joined}
use Rattle.record.proofs.Steps.{fewer-left, none-pulled, pulled-gathered, then-gathered, then-taken}
use Rattle.record.proofs.Telling.{taken-entry}

-- nobody's entry
abbrev nobodys : Entry → Told
nobodys e = record { owner = None; entry = e }

-- the reader with a line gathered
abbrev with-line : {N : Type 0} → Reader N → List ℕ → List ℕ → Reader N
with-line reader line behind = record {
  lines = record { line = line; ahead = 10 ∷ behind; number = reader.lines.number };
  due = reader.due;
  draft = reader.draft;
  entries = reader.entries;
}

entry-read : {N : Type 0} (tells : N → Option RecordingView → Type 0) (f : TextHead) (left : ℕ) (due next : Due) (draft : Draft) (old new : N) (e : Entry)
    (r : Kept) → due ≡ EntryLine f left → f.seats ≡ 0 → FitsEntry e → next ≡ entries_due f (left - 1) →
    ((v : RecordingView) → tells old (Some v) → tells new (Some (with_owned v e None))) → HasRead tells due draft old r →
    HasTakenLine tells due r (words (joined (entry_words e))) next draft new
entry-read tells f left due next draft old new e r at none fits behind told h =
    taken-entry tells due f left draft old new r (words (joined (entry_words e))) (Ok next) at
    (λ read before. record {
      all = r.entries ++ e ∷ [];
      owners = r.owners ++ owner_list None;
      taken =
          entry-taken f r _ _ left (nobodys e) _ _ read (none, fits) (words-joined (entry_words e) (entry-line e fits)) refl refl behind;
      told = told (recorded r) before;
    }) h

-- whatever has been read, an entry more has been read
pub one-more : {N : Type 0} (tells : N → Option RecordingView → Type 0) (f : TextHead) (left : ℕ) (old new : Reader N) (e : Entry) → old.due ≡ EntryLine f left →
    f.seats ≡ 0 → FitsEntry e → IsEntryTakenOff e old.lines new.lines → new.due ≡ entries_due f (left - 1) → new.draft ≡ old.draft →
    ((v : RecordingView) → tells old.entries (Some v) → tells new.entries (Some (with_owned v e None))) → StillReads tells old new
one-more tells f left old new e at none fits off behind same told = λ before last h.
    let mid = with-line old (joined (entry_words e)) new.lines.ahead in
    let kept : pending mid.lines ≡ pending old.lines = sym (ap (λ l. l ++ old.lines.ahead) off.none ∙ off.ahead) in
    let reading =
    then-gathered tells before last last old mid h (pulled-gathered tells last last old old mid (none-pulled tells last old) kept refl refl refl (λ r t. t)) in
    then-taken tells before last mid new reading
    (subst (λ (d : Draft). HasTakenLine tells old.due reading.recording (words (joined (entry_words e))) new.due d new.entries) (sym same)
    (entry-read tells f left old.due new.due old.draft old.entries new.entries e reading.recording at none fits behind told reading.read))
    (record { line = off.line; ahead = refl; number = off.number })

-- and fewer lines are left
pub fewer-behind : (f : TextHead) (left : ℕ) (due next : Due) (e : Entry) → due ≡ EntryLine f left → f.seats ≡ 0 → FitsEntry e → next ≡ entries_due f (left - 1) →
    lines_left next < lines_left due
fewer-behind f left due next e at none fits behind =
    subst (λ d. lines_left next < lines_left d) (sym at)
    (fewer-left (EntryLine f left) (told_words (nobodys e)) next (nobodys e, (none, fits), refl, behind))

-- and the reader is ready for more
pub still-ready : {N : Type 0} (has_room : N → ℕ → Type 0) (old new : Reader N) (e : Entry) → IsReady has_room old → IsEntryTakenOff e old.lines new.lines →
    lines_left new.due < lines_left old.due → new.draft ≡ old.draft → ((n : ℕ) → has_room old.entries (n + 1) → has_room new.entries n) → IsReady has_room new
still-ready has_room old new e h off less same room =
    let longer : length new.lines.ahead < length old.lines.ahead =
    omega (arith, ap length off.ahead, length-append (joined (entry_words e)) (10 ∷ new.lines.ahead)) in
    record {
      room = subst HasRoom (sym same) h.room;
      space = λ n low. room n (h.space (n + 1) (omega (arith, low, longer)));
      few = omega (arith, h.few, off.number, less);
      line = λ done. off.line;
      short = omega (arith, ap length off.line);
    }

-- where so many entries are still due, the reader from whose lines some of them were taken already
abbrev pub with-due : {N : Type 0} → TextHead → ℕ → Reader N → Reader N
with-due f left reader = record {
  lines = reader.lines;
  due = entries_due f left;
  draft = reader.draft;
  entries = reader.entries;
}

-- where any are left, an entry is due
pub still-due : (f : TextHead) (left : ℕ) → 0 < left → entries_due f left ≡ EntryLine f left
still-due f zero some = absurd (omega (arith, some))
still-due f (suc n) some = refl

-- and as long as none was taken it is the reader itself
pub none-taken : {N : Type 0} (f : TextHead) (left : ℕ) (reader : Reader N) → reader.due ≡ EntryLine f left → 0 < left → reader ≡ with-due f left reader
none-taken f left reader at some =
    ap (λ (d : Due). record {
      lines = reader.lines;
      due = d;
      draft = reader.draft;
      entries = reader.entries;
    }) (at ∙ sym (still-due f left some))

-- where an entry is due, one is left, and there is room for it
pub one-left : {N : Type 0} (tells : N → Option RecordingView → Type 0) (f : TextHead) (left : ℕ) (due : Due) (draft : Draft) (entries : N) (r : Kept) →
    due ≡ EntryLine f left → HasRead tells due draft entries r → (0 < left) × tells entries (Some (recorded r)) × (length r.entries < 1000000)
one-left tells f left due draft entries r at read =
    let here = subst (λ d. HasRead tells d draft entries r) at read in
    (here.read.entries.0, here.told, omega (arith, here.read.entries.0, here.read.entries.1))
