-- Lines that are taken off a source one after the other.
use Rattle.std.proofs.Common.{◌≡◌, ◌+◌, ◌-◌, ◌<◌, ℕ, zero, suc, List, [], ◌∷◌, ◌++◌, Option, length, map, refl, ap, sym, subst, ◌∙◌, arith}
use Rattle.std.proofs.Common.{◌≢◌, ◌≤◌, inr, append_assoc, Bool, true, false, length-append, rules}
use Rattle.std.proofs.lemmas.List.{append-nil, map-append}
use Rattle.std.proofs.lemmas.Grind.{flat_map-append}
use Rattle.std.proofs.KnownBytes.{Consumes-trans, Consumes-nil}
use Rattle.std.specs.List.{flat_map}
use Rattle.std.specs.Io.KnownBytes.{Consumes, IsAtEnd, prepend_known}
use Rattle.base.specs.Words.{words}
use Rattle.tables.specs.CellPlaces.{place_number}
use Rattle.record_lines.specs.declared.due.Due.{Due}
use Rattle.record_lines.specs.declared.due.Due.TheVariants.{Header, ProtocolLine, ShapeLine, SeatsLine, OpeningLine, CellCount, CellLine, EntryCount}
use Rattle.record_lines.specs.declared.due.Due.TheVariants.{EntryLine, EndLine, Nothing}
use Rattle.record_lines.specs.declared.fault.ReadKind.{ReadKind}
use Rattle.record_lines.specs.declared.fault.ReadKind.TheVariants.{BadHeader, BadLine, Truncated, CountDiffers, BadOutcome, OverLimit, NoMemory, Device}
use Rattle.record_lines.specs.declared.fault.ReadKind.TheVariants.{UnknownProtocol}
use Rattle.base.specs.Extent.{Extent}
use Rattle.record_lines.specs.declared.due.TextHead.{TextHead}
use Rattle.record_lines.specs.declared.version.Version.{Version}
use Rattle.record_lines.specs.declared.version.Version.TheVariants.{One, Two}
use Rattle.record_lines.specs.Versions.{header_leads, shape_leads_in}
use Rattle.record.specs.declared.reader.Reader.{Reader}
use Rattle.record_lines.specs.Cells.{place_of}
use Rattle.record_lines.specs.Grammar.{cells_due, entries_due, Leads, Follow}
use Rattle.record_lines.specs.Refused.{ended, limit, BeginsFaulty, HasNoEnd, IsFaultOfLine, IsUnfinished, IsFaultOfRest, IsRefused, IsWellFormed}
use Rattle.record_lines.specs.Text.{line}
use Rattle.record.specs.View.{RecordingView}
use Rattle.record.specs.declared.draft.Draft.{Draft}
use Rattle.record.specs.inner.Drafts.{kept, told_at, with_told, lines_before, lines_left, HasRead, HasTakenLine, IsReadTo, IsTaken, Kept}
use Rattle.record.specs.inner.Readers.{HasPulled, HasTaken, IsReading, IsReadWhole}
use Rattle.record_lines.specs.Reading.{Gathered, AreSomeIf, IsTakenOff, IsWholeIf, pending, stream}
use Rattle.record_lines.proofs.Streams.{let-go, line-off, none-held, pulled}
use Rattle.record_lines.proofs.Leading.{few-most}
use Rattle.record_lines.proofs.Words.{spelled-text}

follow-append : (due mid last : Due) (xs ys : List (List ℕ)) → Follow due xs mid → Follow mid ys last → Follow due (xs ++ ys) last
follow-append due mid last [] ys first second = subst (λ (d : Due). Follow d ys last) (sym first) second
follow-append due mid last (x ∷ xs) ys first second = (first.0, first.1, follow-append first.0 mid last xs ys first.2 second)

-- ---- bytes that are pulled

pub none-if : (b : Bool) (bytes : List ℕ) → b ≡ false → AreSomeIf b bytes → bytes ≡ []
none-if false bytes is h = h
none-if true bytes is h = absurd (cc)

pub some-if : (b : Bool) (bytes : List ℕ) → b ≡ true → AreSomeIf b bytes → 0 < length bytes
some-if true bytes is h = h
some-if false bytes is h = absurd (cc)

pub some-pending : (gathered : Gathered) → 0 < length gathered.ahead → pending gathered ≢ []
some-pending gathered some none = absurd (omega (arith, some, ap length none, length-append gathered.line gathered.ahead))

pub not-whole : (b : Bool) (ahead : List ℕ) → b ≡ false → IsWholeIf b ahead → ahead ≡ []
not-whole false ahead is h = h
not-whole true ahead is h = absurd (cc)

pub unfinished : (most : ℕ) (gathered : Gathered) (line : List ℕ) → gathered.ahead ≡ [] → gathered.line ≡ line → HasNoEnd line → length line ≤ most →
    IsUnfinished most (pending gathered)
unfinished most gathered line none is no_end short =
    subst (IsUnfinished most) (sym (ap (λ l. gathered.line ++ l) none ∙ append-nil gathered.line ∙ is)) (record { no_end = no_end; short = short })

-- nothing is lost
then-pulled : (before left more : Option (List ℕ)) (old mid new : Gathered) → Consumes before (stream old left) [] → pending mid ≡ pending old →
    mid.ahead ≡ [] → new.line ≡ mid.line → Consumes left more new.ahead → Consumes before (stream new more) []
then-pulled before left more old mid new first kept none line bytes =
    Consumes-trans before (stream old left) (stream new more) [] [] first
    (subst (λ l. Consumes (stream old left) (prepend_known (l ++ new.ahead) more) []) (sym line)
    (subst (λ l. Consumes (prepend_known l left) (prepend_known (mid.line ++ new.ahead) more) []) kept
    (pulled left more mid.line mid.ahead new.ahead none bytes)))

pub none-pulled : {N : Type 0} (tells : N → Option RecordingView → Type 0) (left : Option (List ℕ)) (reader : Reader N) →
    HasPulled tells left left reader reader
none-pulled tells left reader = record { stream = Consumes-nil (stream reader.lines left); number = refl; due = refl; draft = refl; told = λ r h. h }

pub pulled-gathered : {N : Type 0} (tells : N → Option RecordingView → Type 0) (left more : Option (List ℕ)) (old mid new : Reader N) →
    HasPulled tells left more old mid → pending new.lines ≡ pending mid.lines → new.lines.number ≡ mid.lines.number → new.due ≡ mid.due →
    new.draft ≡ mid.draft → ((r : Option RecordingView) → tells mid.entries r → tells new.entries r) → HasPulled tells left more old new
pulled-gathered tells left more old mid new h kept number due same told = record {
  stream = subst (λ l. Consumes (stream old.lines left) (prepend_known l more) []) (sym kept) h.stream;
  number = number ∙ h.number;
  due = due ∙ h.due;
  draft = same ∙ h.draft;
  told = λ r t. told r (h.told r t);
}

pub pulled-more : {N : Type 0} (tells : N → Option RecordingView → Type 0) (left more most : Option (List ℕ)) (old mid new : Reader N) (lines : Gathered) →
    HasPulled tells left more old mid → pending lines ≡ pending mid.lines → lines.ahead ≡ [] → new.lines.line ≡ lines.line →
    Consumes more most new.lines.ahead → new.lines.number ≡ mid.lines.number → new.due ≡ mid.due → new.draft ≡ mid.draft →
    ((r : Option RecordingView) → tells mid.entries r → tells new.entries r) → HasPulled tells left most old new
pulled-more tells left more most old mid new lines h pending none line bytes number due same told = record {
  stream = then-pulled (stream old.lines left) more most mid.lines lines new.lines h.stream pending none line bytes;
  number = number ∙ h.number;
  due = due ∙ h.due;
  draft = same ∙ h.draft;
  told = λ r t. told r (h.told r t);
}

pub then-longer : (most : ℕ) (old mid new : Gathered) → pending mid ≡ pending old → mid.ahead ≡ [] → new.line ≡ mid.line → length mid.line ≤ most →
    0 < length new.ahead → (most + 1) - length (pending new) < (most + 1) - length (pending old)
then-longer most old mid new kept none line short some =
    omega (
      arith,
      ap length kept,
      ap length none,
      ap length line,
      length-append old.line old.ahead,
      length-append mid.line mid.ahead,
      length-append new.line new.ahead,
      short,
      some,
    )

pub read-gathered : {N : Type 0} (tells : N → Option RecordingView → Type 0) (left more : Option (List ℕ)) (old new : Reader N) (r : Kept) →
    HasRead tells old.due old.draft old.entries r → HasPulled tells left more old new → HasRead tells new.due new.draft new.entries r
read-gathered tells left more old new r h pulled = record {
  head = h.head ∙ ap (λ (d : Draft). with_told (kept d) r.entries r.owners) (sym pulled.draft);
  read = subst (λ (d : Due). IsReadTo d r) (sym pulled.due) h.read;
  told = pulled.told (told_at new.due r) (subst (λ (d : Due). tells old.entries (told_at d r)) (sym pulled.due) h.told);
}

taken-gathered : {N : Type 0} (tells : N → Option RecordingView → Type 0) (before left more : Option (List ℕ)) (old new : Reader N) (r : Kept) →
    HasTaken before left old r → HasPulled tells left more old new → HasTaken before more new r
taken-gathered tells before left more old new r h pulled = record {
  lines = h.lines;
  follow = subst (λ d. Follow Header h.lines d) (sym pulled.due) h.follow;
  told = h.told ∙ ap (λ d. lines_before d r) (sym pulled.due);
  number = pulled.number ∙ h.number;
  taken =
      subst (Consumes before (stream new.lines more)) (append-nil (flat_map ended h.lines))
      (Consumes-trans before (stream old.lines left) (stream new.lines more) (flat_map ended h.lines) [] h.taken pulled.stream);
}

pub then-gathered : {N : Type 0} (tells : N → Option RecordingView → Type 0) (before left more : Option (List ℕ)) (old new : Reader N) →
    IsReading tells before left old → HasPulled tells left more old new → IsReading tells before more new
then-gathered tells before left more old new h pulled = record {
  recording = h.recording;
  read = read-gathered tells left more old new h.recording h.read pulled;
  taken = taken-gathered tells before left more old new h.recording h.taken pulled;
}

-- one line more
taken-more : {N : Type 0} (before left : Option (List ℕ)) (old new : Reader N) (r s : Kept) → HasTaken before left old r →
    IsTaken old.due r (words old.lines.line) new.due s → IsTakenOff old.lines new.lines → HasTaken before left new s
taken-more before left old new r s h taken off =
    let one : List (List ℕ) = old.lines.line ∷ [] in
    record {
      lines = h.lines ++ one;
      follow = follow-append Header old.due new.due h.lines one h.follow (new.due, taken.leads, refl);
      told = map-append words h.lines one ∙ ap (λ l. l ++ words old.lines.line ∷ []) h.told ∙ sym taken.before;
      number = off.number ∙ omega (arith, h.number, length-append h.lines one);
      taken =
          subst (Consumes before (stream new.lines left))
          (ap (λ l. flat_map ended h.lines ++ l) (sym (append-nil (ended old.lines.line))) ∙ sym (flat_map-append ended h.lines one))
          (Consumes-trans before (stream old.lines left) (stream new.lines left) (flat_map ended h.lines) (ended old.lines.line) h.taken
          (line-off left old.lines.line old.lines.ahead new.lines.line new.lines.ahead off.ahead off.line));
    }

pub then-taken : {N : Type 0} (tells : N → Option RecordingView → Type 0) (before left : Option (List ℕ)) (old new : Reader N)
    (h : IsReading tells before left old) →
    HasTakenLine tells old.due h.recording (words old.lines.line) new.due new.draft new.entries → IsTakenOff old.lines new.lines →
    IsReading tells before left new
then-taken tells before left old new h line off = record {
  recording = line.new;
  read = line.read;
  taken = taken-more before left old new h.recording line.new h.taken line.taken off;
}

-- ---- faults

begins : (due : Due) (rest : List ℕ) (end : _) (kind : ReadKind) → BeginsFaulty due rest kind → IsFaultOfRest due rest end kind
begins due rest end Truncated h = absurd h.fault
begins due rest end OverLimit h = inr h
begins due rest end NoMemory h = absurd h.fault
begins due rest end Device h = absurd h.fault
begins due rest end BadHeader h = h
begins due rest end BadLine h = inr h
begins due rest end CountDiffers h = h
begins due rest end BadOutcome h = h
begins due rest end UnknownProtocol h = h

-- a whole line with a fault
pub line-fault : (due : Due) (line ahead behind : List ℕ) (end : _) (kind : ReadKind) → ahead ≡ 10 ∷ behind → HasNoEnd line → length line ≤ limit due →
    IsFaultOfLine due (words line) kind → IsFaultOfRest due (line ++ ahead) end kind
line-fault due line ahead behind end kind is no_end short fault =
    begins due (line ++ ahead) end kind (record {
      line = line;
      behind = behind;
      stands = ap (λ l. line ++ l) is ∙ sym (append_assoc line (10 ∷ []) behind);
      no_end = no_end;
      short = short;
      fault = fault;
    })

-- lines, and then a fault
pub then-refused : {N : Type 0} (tells : N → Option RecordingView → Type 0) (before left : Option (List ℕ)) (reader : Reader N) (kind : ReadKind) →
    IsReading tells before left reader → IsFaultOfRest reader.due (pending reader.lines) left kind →
    IsRefused before left 0 Header (reader.lines.number + 1) kind
then-refused tells before left reader kind h fault = record {
  lines = h.taken.lines;
  last = reader.due;
  rest = pending reader.lines;
  follow = h.taken.follow;
  number = omega (arith, h.taken.number);
  read = let-go before left (flat_map ended h.taken.lines) (pending reader.lines) h.taken.taken;
  fault = fault;
}

-- want of memory before anything is read
pub no-room : (left : Option (List ℕ)) → IsRefused left left 0 Header 1 NoMemory
no-room left = record {
  lines = [];
  last = Header;
  rest = [];
  follow = refl;
  number = refl;
  read = Consumes-nil left;
  fault = (λ e. cc, record { no_end = search rules; short = omega arith });
}

-- ---- where nothing is due

all-ended : (ls : List (List ℕ)) → flat_map ended ls ≡ flat_map line (map words ls)
all-ended [] = refl
all-ended (l ∷ ls) = ap (λ x. (x ++ 10 ∷ []) ++ flat_map ended ls) (spelled-text l (words l) refl) ∙ ap (λ x. line (words l) ++ x) (all-ended ls)

all-taken : {N : Type 0} (before left : Option (List ℕ)) (reader : Reader N) (r : Kept) (h : HasTaken before left reader r) → pending reader.lines ≡ [] →
    Consumes before left (flat_map ended h.lines)
all-taken before left reader r h none =
    subst (λ b. Consumes before b (flat_map ended h.lines)) (ap (λ l. prepend_known l left) none ∙ none-held left) h.taken

pub taken-whole : {N : Type 0} (tells : N → Option RecordingView → Type 0) (before left : Option (List ℕ)) (reader : Reader N) →
    IsReading tells before left reader → reader.due ≡ Nothing → pending reader.lines ≡ [] → IsAtEnd left → IsWellFormed before left
taken-whole tells before left reader h done none end = record {
  lines = h.taken.lines;
  follow = subst (λ d. Follow Header h.taken.lines d) done h.taken.follow;
  read = all-taken before left reader h.recording h.taken none;
  end = end;
}

pub taken-text : {N : Type 0} (tells : N → Option RecordingView → Type 0) (before left : Option (List ℕ)) (reader : Reader N) →
    IsReading tells before left reader → reader.due ≡ Nothing → pending reader.lines ≡ [] → IsReadWhole tells before left reader
taken-text tells before left reader h done none = record {
  recording = h.recording;
  read = subst (λ (d : Due). HasRead tells d reader.draft reader.entries h.recording) done h.read;
  text =
      subst (Consumes before left)
      (all-ended h.taken.lines ∙ ap (λ ls. flat_map line ls) (h.taken.told ∙ ap (λ d. lines_before d h.recording) done))
      (all-taken before left reader h.recording h.taken none);
}

-- ---- each line leaves fewer

fewer-cells : (f : TextHead) (n from : ℕ) → lines_left (cells_due f n from) < n + 1000005
fewer-cells f zero from = omega arith
fewer-cells f (suc n) from = omega arith

fewer-entries : (f : TextHead) (n : ℕ) → lines_left (entries_due f n) < n + 3
fewer-entries f zero = omega arith
fewer-entries f (suc n) = omega arith

fewer-cells-behind : (f : TextHead) (left from : ℕ) → lines_left (cells_due f (left - 1) from) < left + 1000004
fewer-cells-behind f zero from = omega arith
fewer-cells-behind f (suc n) from =
    let is : suc n - 1 ≡ n = omega arith in omega (arith, ap (λ k. lines_left (cells_due f k from)) is, fewer-cells f n from)

fewer-entries-behind : (f : TextHead) (left : ℕ) → lines_left (entries_due f (left - 1)) < left + 2
fewer-entries-behind f zero = omega arith
fewer-entries-behind f (suc n) =
    let is : suc n - 1 ≡ n = omega arith in omega (arith, ap (λ k. lines_left (entries_due f k)) is, fewer-entries f n)

fewer-header : (v : Version) → lines_left (header_leads v) < 1000194
fewer-header One = omega arith
fewer-header Two = omega arith

fewer-shape : (v : Version) (f : TextHead) (shape : Extent) → lines_left (shape_leads_in v f shape) < 1000192
fewer-shape One f shape = omega arith
fewer-shape Two f shape = omega arith

pub fewer-left : (due : Due) (words : List (List ℕ)) (next : Due) → Leads due words next → lines_left next < lines_left due
fewer-left Header words next l = omega (arith, ap lines_left l.2, fewer-header l.0)
fewer-left ProtocolLine words next l = omega (arith, ap lines_left l.2)
fewer-left (ShapeLine f) words next l = omega (arith, ap lines_left l.3, fewer-shape f.version f l.0)
fewer-left (SeatsLine f shape) words next l = omega (arith, ap lines_left l.3)
fewer-left (OpeningLine f shape) words next l = omega (arith, ap lines_left l.3)
fewer-left (CellCount f) words next l = omega (arith, ap lines_left l.3, fewer-cells f l.0 0, l.1, few-most f.protocol)
fewer-left (CellLine f left from) words next l = omega (arith, ap lines_left l.3, fewer-cells-behind f left (place_number (place_of l.0) + 1))
fewer-left (EntryCount f) words next l = omega (arith, ap lines_left l.3, fewer-entries f l.0, l.1)
fewer-left (EntryLine f left) words next l = omega (arith, ap lines_left l.3, fewer-entries-behind f left)
fewer-left (EndLine f) words next l = omega (arith, ap lines_left l.1)
fewer-left Nothing words next l = absurd l
