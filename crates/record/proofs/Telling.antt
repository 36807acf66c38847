-- What a draft keeps, and what is told of entries beside it, grows line by line.
use Rattle.std.proofs.Common.{◌≡◌, ◌≢◌, ◌≤◌, ◌+◌, ◌-◌, ℕ, zero, suc, List, [], ◌∷◌, length, refl, ap, sym, subst, ◌∙◌, arith}
use Rattle.std.proofs.Common.{◌⊎◌, inl, inr, Result, Ok, Err}
use Rattle.std.specs.Prelude.{Option, Some, None, IfOk, OnOk}
use Rattle.std.proofs.lemmas.Bool.{cases_eq}
use Rattle.std.proofs.lemmas.Result.{IfOk-weaker}
use Rattle.base.specs.Extent.{Extent}
use Rattle.tables.specs.CellPlaces.{place_number}
use Rattle.record_lines.specs.declared.due.TextHead.{TextHead}
use Rattle.record_lines.specs.declared.version.Version.{Version}
use Rattle.record_lines.specs.declared.version.Version.TheVariants.{One, Two}
use Rattle.record_lines.specs.Refused.{limit}
use Rattle.record_lines.specs.Versions.{header_leads, shape_leads_in}
use Rattle.record.specs.Versions.{HasTextIn}
use Rattle.record.specs.declared.draft.Draft.{Draft}
use Rattle.record_lines.specs.declared.fault.ReadKind.{ReadKind}
use Rattle.record_lines.specs.declared.due.Due.{Due}
use Rattle.record_lines.specs.declared.due.Due.TheVariants.{Header, ProtocolLine, ShapeLine, SeatsLine, OpeningLine, CellCount, CellLine, EntryCount, EntryLine}
use Rattle.record_lines.specs.declared.due.Due.TheVariants.{EndLine, Nothing}
use Rattle.record.specs.declared.reader.Reader.{Reader}
use Rattle.record_lines.specs.declared.entry.Entry.{Entry}
use Rattle.record_lines.specs.Cells.{place_of}
use Rattle.record_lines.specs.Grammar.{cells_due, entries_due, Leads}
use Rattle.record.specs.View.{AreOwners, RecordingView}
use Rattle.record.specs.Recordable.{IsRecordable}
use Rattle.record.specs.Text.{told}
use Rattle.record.specs.inner.Drafts.{kept, recorded, told_at, with_told, Kept, lines_left, HasRead, HasRoom, HasTakenEntry, HasTakenLine, IsReadTo, IsTaken}
use Rattle.record.specs.Telling.{HasRoomUpTo}
use Rattle.record.specs.inner.Readers.{IsReady}
use Rattle.record_lines.specs.Reading.{IsTakenOff}
use Rattle.record.proofs.Steps.{fewer-left}
use Rattle.record.proofs.Drafting.{end-taken}

-- whether what is due stands in front of all entries, and in front of their number
abbrev IsInFront : Due → Type 0
IsInFront (EntryLine f left) = ⊥
IsInFront (EndLine f) = ⊥
IsInFront Nothing = ⊥
IsInFront due = Unit {0}

abbrev pub IsBeforeCount : Due → Type 0
IsBeforeCount (EntryCount f) = ⊥
IsBeforeCount due = IsInFront due

-- in front of the entries there is none
none-in_front : (due : Due) (r : Kept) → IsInFront due → IsReadTo due r → r.entries ≡ []
none-in_front Header r front h = h.entries
none-in_front ProtocolLine r front h = h.entries
none-in_front (ShapeLine f) r front h = h.entries
none-in_front (SeatsLine f shape) r front h = h.entries
none-in_front (OpeningLine f shape) r front h = h.entries
none-in_front (CellCount f) r front h = h.entries
none-in_front (CellLine f left from) r front h = h.entries
none-in_front (EntryCount f) r front h = h.entries
none-in_front (EntryLine f left) r front h = absurd front
none-in_front (EndLine f) r front h = absurd front
none-in_front Nothing r front h = absurd front

none-of : {X : Type 0} (xs : List X) → length xs ≡ 0 → xs ≡ []
none-of [] e = refl
none-of (x ∷ xs) e = absurd (omega (arith, e))

nobody : (seats : ℕ) (owners : List ℕ) (entries : List Entry) → entries ≡ [] → AreOwners seats owners entries → (seats ≡ 0) ⊎ (seats ≢ 0) → owners ≡ []
nobody seats owners entries none h (inl e) = h.none e
nobody seats owners entries none h (inr ne) = none-of owners (h.each ne ∙ ap length none)

pub in_front : {N : Type 0} (tells : N → Option RecordingView → Type 0) (due at : Due) (draft : Draft) (entries : N) (r : Kept) → due ≡ at → IsInFront at →
    HasRead tells due draft entries r → r ≡ kept draft
in_front tells due at draft entries r is front h =
    let read : IsReadTo at r = subst (λ d. IsReadTo d r) is h.read in
    let none = none-in_front at r front read in
    let owners = nobody r.seats r.owners r.entries none read.owners (cases_eq r.seats 0) in
    h.head ∙ ap (λ es. with_told (kept draft) es r.owners) none ∙ ap (λ os. with_told (kept draft) [] os) owners

pub read-in_front : {N : Type 0} (tells : N → Option RecordingView → Type 0) (due at : Due) (draft : Draft) (entries : N) (r : Kept) → due ≡ at → IsInFront at →
    HasRead tells due draft entries r → IsReadTo at (kept draft)
read-in_front tells due at draft entries r is front h =
    subst (IsReadTo at) (in_front tells due at draft entries r is front h) (subst (λ d. IsReadTo d r) is h.read)

none-told : (due : Due) (r : Kept) → IsInFront due → told_at due r ≡ None
none-told Header r front = refl
none-told ProtocolLine r front = refl
none-told (ShapeLine f) r front = refl
none-told (SeatsLine f shape) r front = refl
none-told (OpeningLine f shape) r front = refl
none-told (CellCount f) r front = refl
none-told (CellLine f left from) r front = refl
none-told (EntryCount f) r front = refl
none-told (EntryLine f left) r front = absurd front
none-told (EndLine f) r front = absurd front
none-told Nothing r front = absurd front

pub none-yet : {N : Type 0} (tells : N → Option RecordingView → Type 0) (due at : Due) (draft : Draft) (entries : N) (r : Kept) → due ≡ at → IsInFront at →
    HasRead tells due draft entries r → tells entries None
none-yet tells due at draft entries r is front h =
    subst (tells entries) (ap (λ (d : Due). told_at d r) is ∙ none-told at r front) h.told

front-header : (v : Version) → IsInFront (header_leads v)
front-header One = tt
front-header Two = tt

front-shape : (v : Version) (f : TextHead) (shape : Extent) → IsInFront (shape_leads_in v f shape)
front-shape One f shape = tt
front-shape Two f shape = tt

front-cells : (f : TextHead) (n from : ℕ) → IsInFront (cells_due f n from)
front-cells f zero from = tt
front-cells f (suc n) from = tt

-- behind a line before the count of entries nothing of them is due yet
still-front : (at : Due) (line : List (List ℕ)) (next : Due) → IsBeforeCount at → Leads at line next → IsInFront next
still-front Header line next b l = subst IsInFront (sym l.2) (front-header l.0)
still-front ProtocolLine line next b l = subst IsInFront (sym l.2) tt
still-front (ShapeLine f) line next b l = subst IsInFront (sym l.3) (front-shape f.version f l.0)
still-front (SeatsLine f shape) line next b l = subst IsInFront (sym l.3) tt
still-front (OpeningLine f shape) line next b l = subst IsInFront (sym l.3) tt
still-front (CellCount f) line next b l = subst IsInFront (sym l.3) (front-cells f l.0 0)
still-front (CellLine f left from) line next b l = subst IsInFront (sym l.3) (front-cells f (left - 1) (place_number (place_of l.0) + 1))
still-front (EntryCount f) line next b l = absurd b
still-front (EntryLine f left) line next b l = absurd b
still-front (EndLine f) line next b l = absurd b
still-front Nothing line next b l = absurd b

at-front : (at : Due) → IsBeforeCount at → IsInFront at
at-front Header b = tt
at-front ProtocolLine b = tt
at-front (ShapeLine f) b = tt
at-front (SeatsLine f shape) b = tt
at-front (OpeningLine f shape) b = tt
at-front (CellCount f) b = tt
at-front (CellLine f left from) b = tt
at-front (EntryCount f) b = tt
at-front (EntryLine f left) b = absurd b
at-front (EndLine f) b = absurd b
at-front Nothing b = absurd b

-- a line in front of the entries was taken
pub taken-in_front : {N : Type 0} (tells : N → Option RecordingView → Type 0) (due at : Due) (old new : Draft) (entries : N) (r : Kept)
    (line : List (List ℕ)) (result : Result Due ReadKind) → due ≡ at → IsBeforeCount at →
    IfOk result (λ next. IsTaken at (kept old) line next (kept new)) → HasRead tells due old entries r →
    IfOk result (λ next. HasTakenLine tells due r line next new entries)
taken-in_front tells due at old new entries r line result is front taken h =
    let same = in_front tells due at old entries r is (at-front at front) h in
    let none = none-yet tells due at old entries r is (at-front at front) h in
    IfOk-weaker result _ _ (λ next t. record {
      new = kept new;
      taken = subst (λ (d : Due). IsTaken d r line next (kept new)) (sym is) (subst (λ (k : Kept). IsTaken at k line next (kept new)) (sym same) t);
      read = record {
        head = refl;
        read = t.read;
        told = subst (tells entries) (sym (none-told next (kept new) (still-front at line next front t.leads))) none;
      };
    }) taken

-- behind the count of entries they are told of
told-behind : (f : TextHead) (n : ℕ) (r : Kept) → told_at (entries_due f n) r ≡ Some (recorded r)
told-behind f zero r = refl
told-behind f (suc n) r = refl

pub taken-entry_count : {N : Type 0} (tells : N → Option RecordingView → Type 0) (due : Due) (f : TextHead) (draft : Draft) (old new : N) (r : Kept)
    (line : List (List ℕ)) (result : Result Due ReadKind) → due ≡ EntryCount f →
    IfOk result (λ next. IsTaken (EntryCount f) (kept draft) line next (kept draft)) → OnOk result (tells new (Some (recorded (kept draft)))) →
    HasRead tells due draft old r → IfOk result (λ next. HasTakenLine tells due r line next draft new)
taken-entry_count tells due f draft old new r line (Ok next) is t told h =
    let same = in_front tells due (EntryCount f) draft old r is tt h in
    record {
      new = kept draft;
      taken =
          subst (λ (d : Due). IsTaken d r line next (kept draft)) (sym is)
          (subst (λ (k : Kept). IsTaken (EntryCount f) k line next (kept draft)) (sym same) t);
      read = record {
        head = refl;
        read = t.read;
        told = subst (tells new) (sym (ap (λ (d : Due). told_at d (kept draft)) t.leads.3 ∙ told-behind f t.leads.0 (kept draft))) told;
      };
    }
taken-entry_count tells due f draft old new r line (Err kind) is t told h = tt

-- and so they are behind each of them
pub taken-entry : {N : Type 0} (tells : N → Option RecordingView → Type 0) (due : Due) (f : TextHead) (left : ℕ) (draft : Draft) (old new : N) (r : Kept)
    (line : List (List ℕ)) (result : Result Due ReadKind) → due ≡ EntryLine f left →
    (IsReadTo (EntryLine f left) r → tells old (Some (recorded r)) → IfOk result (λ next. HasTakenEntry tells (EntryLine f left) r line next new)) →
    HasRead tells due draft old r → IfOk result (λ next. HasTakenLine tells due r line next draft new)
taken-entry tells due f left draft old new r line result is made h =
    IfOk-weaker result _ _ (λ next t. record {
      new = with_told r t.all t.owners;
      taken = subst (λ (d : Due). IsTaken d r line next (with_told r t.all t.owners)) (sym is) t.taken;
      read = record {
        head = ap (λ (k : Kept). with_told k t.all t.owners) h.head;
        read = t.taken.read;
        told =
            subst (tells new)
            (sym (ap (λ (d : Due). told_at d (with_told r t.all t.owners)) t.taken.leads.3 ∙ told-behind f (left - 1) (with_told r t.all t.owners))) t.told;
      };
    }) (made (subst (λ (d : Due). IsReadTo d r) is h.read) (subst (λ (d : Due). tells old (told_at d r)) is h.told))

pub taken-end : {N : Type 0} (tells : N → Option RecordingView → Type 0) (due : Due) (f : TextHead) (draft : Draft) (entries : N) (r : Kept)
    (line : List (List ℕ)) (result : Result Due ReadKind) → due ≡ EndLine f → IfOk result (Leads (EndLine f) line) →
    HasRead tells due draft entries r → IfOk result (λ next. HasTakenLine tells due r line next draft entries)
taken-end tells due f draft entries r line result is ends h =
    IfOk-weaker result _ _ (λ next leads. record {
      new = r;
      taken = subst (λ (d : Due). IsTaken d r line next r) (sym is) (end-taken f r line next (subst (λ (d : Due). IsReadTo d r) is h.read) leads);
      read = record {
        head = h.head;
        read = (end-taken f r line next (subst (λ (d : Due). IsReadTo d r) is h.read) leads).read;
        told = subst (λ (d : Due). tells entries (told_at d r)) (sym leads.1) (subst (λ (d : Due). tells entries (told_at d r)) is h.told);
      };
    }) ends

pub same-room : {N : Type 0} (has_room : N → ℕ → Type 0) (entries : N) (n : ℕ) → HasRoomUpTo has_room entries (n + 1) → HasRoomUpTo has_room entries n
same-room has_room entries n h k low = h k (omega (arith, low))

pub added-room : {N : Type 0} (has_room : N → ℕ → Type 0) (old new : N) (n : ℕ) → ((k : ℕ) → has_room old (k + 1) → has_room new k) →
    HasRoomUpTo has_room old (n + 1) → HasRoomUpTo has_room new n
added-room has_room old new n add h k low = add k (h (k + 1) (omega (arith, low)))

pub same-or-less : {N : Type 0} (has_room : N → ℕ → Type 0) (old new : N) (n : ℕ) → ((k : ℕ) → has_room old k → has_room new k) →
    HasRoomUpTo has_room old (n + 1) → HasRoomUpTo has_room new n
same-or-less has_room old new n same h k low = same k (h k (omega (arith, low)))

-- ---- all of a recording

pub read-recordable : (r : Kept) → IsReadTo Nothing r → IsRecordable (recorded r)
read-recordable r h =
    record { shape = h.shape; tables = h.tables; opening = h.opening; few = h.entries; owners = h.owners; fits = h.fits }

pub read-versioned : (r : Kept) → IsReadTo Nothing r → HasTextIn r.version (recorded r)
read-versioned r h = record { shape = h.head.1; told = h.head.0 }

-- ---- what a reader keeps

-- bytes that were pulled
pub ready-gathered : {N : Type 0} (has_room : N → ℕ → Type 0) (old new : Reader N) → IsReady has_room old → old.due ≢ Nothing → new.due ≡ old.due →
    new.draft ≡ old.draft → new.lines.number ≡ old.lines.number → HasRoomUpTo has_room new.entries (length new.lines.ahead) →
    length new.lines.line ≤ limit old.due → IsReady has_room new
ready-gathered has_room old new h more due same number space short = record {
  room = subst HasRoom (sym same) h.room;
  space = space;
  few = omega (arith, h.few, number, ap lines_left due);
  line = λ none. absurd (more (sym due ∙ none));
  short = omega (arith, short, ap limit due);
}

-- one line more
pub ready-taken : {N : Type 0} (has_room : N → ℕ → Type 0) (old new : Reader N) (line : List (List ℕ)) → IsReady has_room old →
    Leads old.due line new.due → HasRoom new.draft → ((n : ℕ) → HasRoomUpTo has_room old.entries (n + 1) → HasRoomUpTo has_room new.entries n) →
    IsTakenOff old.lines new.lines → IsReady has_room new
ready-taken has_room old new line h leads room space off = record {
  room = room;
  space = space (length new.lines.ahead) (λ n low. h.space n (omega (arith, low, ap length off.ahead)));
  few = omega (arith, h.few, off.number, fewer-left old.due line new.due leads);
  line = λ done. off.line;
  short = omega (arith, ap length off.line);
}
