-- Well formed bytes are the text of a recording.
use Rattle.std.proofs.Common.{◌≡◌, ◌≢◌, ◌≤◌, ◌+◌, ◌-◌, ℕ, zero, suc, List, [], ◌∷◌, ◌++◌, Some, true, length, map, take, refl, ap, sym, subst}
use Rattle.std.proofs.Common.{◌∙◌, arith, append-nil, append_assoc}
use Rattle.std.specs.List.{AllByRecursion, flat_map}
use Rattle.std.proofs.lemmas.List.Elements.{All-from_recursion}
use Rattle.std.proofs.lemmas.Grind.{flat_map-append}
use Rattle.std.proofs.lemmas.List.{length-map}
use Rattle.base.specs.Words.{words}
use Rattle.base.proofs.Cells.{TableOf, HasSize-replaced, replaced-here, replaced-other}
use Rattle.cache_table.specs.Baseline as cache_baseline
use Rattle.cache_table.specs.Keeping as cache_keeping
use Rattle.cache_table.specs.Table as cache_table
use Rattle.cache_table.proofs.Keeping.{keeps-replaced as cache-keeps}
use Rattle.cache_table.specs.inner.Standing as cache_standing
use Rattle.directory_table.specs.Baseline as directory_baseline
use Rattle.directory_table.specs.Keeping as directory_keeping
use Rattle.directory_table.specs.Table as directory_table
use Rattle.directory_table.proofs.Keeping.{keeps-replaced as directory-keeps}
use Rattle.directory_table.specs.inner.Standing as directory_standing
use Rattle.tables.specs.CellPlaces.{all_places, place_number}
use Rattle.tables.specs.Tables.{Tables, baseline_of}
use Rattle.tables.specs.declared.cell_places.CellPlace.{CellPlace}
use Rattle.tables.specs.declared.cell_places.CellPlace.TheVariants as place
use Rattle.tables.proofs.CellPlaces.{at-own}
use Rattle.record_lines.specs.declared.cells.Cell.{Cell}
use Rattle.record_lines.specs.declared.cells.Cell.TheVariants as cell
use Rattle.record_lines.specs.declared.entry.Entry.{Entry}
use Rattle.record_lines.specs.Cells.{cell_at, cell_words, is_known, place_of, FitsCell}
use Rattle.record.specs.View.{RecordingView}
use Rattle.record.specs.Text.{text, told, changed, changed_cells}
use Rattle.record_lines.specs.Text.{line, header_words, shape_words, opening_words, cells_words, entries_words, told_words, end_words}
use Rattle.base.specs.Extent.{Extent}
use Rattle.base.specs.declared.controller.protocol.Protocol.{Protocol}
use Rattle.base.specs.declared.controller.protocol.Protocol.TheVariants.{Msi}
use Rattle.record_lines.specs.declared.due.Due.{Due}
use Rattle.record_lines.specs.declared.due.TextHead.{TextHead}
use Rattle.record_lines.specs.declared.told.Told.{Told}
use Rattle.record_lines.specs.declared.version.Version.{Version}
use Rattle.record_lines.specs.declared.version.Version.TheVariants.{One, Two}
use Rattle.record_lines.specs.Versions.{form, header_leads, protocol_lines, protocol_words, seats_lines, seats_words, CanTell, IsShapeIn}
use Rattle.record.specs.Versions.{HasTextIn}
use Rattle.record.proofs.Owners.{are-owners, entries-fit, entries_of, owners_of, told-of}
use Rattle.record_lines.specs.declared.due.Due.TheVariants.{Header, ProtocolLine, ShapeLine, SeatsLine, OpeningLine, CellCount, CellLine, EntryCount}
use Rattle.record_lines.specs.declared.due.Due.TheVariants.{EntryLine, EndLine, Nothing}
use Rattle.record_lines.specs.Grammar.{cells_due, entries_due, AreValues, FitsEntry, FitsTold, Leads, Follow}
use Rattle.record.specs.Recordable.{AreWhole, IsRecordable}
use Rattle.record_lines.specs.Refused.{ended, IsWellFormed}
use Rattle.record.specs.inner.Drafts.{IsBaselineFrom}
use Rattle.record.proofs.Following.{AreListed}
use Rattle.record.proofs.Listed.{ended-line, listed-all, listed-more, plain-more}
use Rattle.record.proofs.Standing.{baseline-whole, whole-more}

-- ---- tables of these cells

cache-listed : TableOf cache_baseline.all_states cache_baseline.all_events cache_table.state_number cache_table.event_number
cache-listed = record { states_stand = cache_standing.state_stands; events_stand = cache_standing.event_stands }

directory-listed :
    TableOf directory_baseline.all_states directory_baseline.all_events directory_table.state_number directory_table.event_number
directory-listed = record { states_stand = directory_standing.state_stands; events_stand = directory_standing.event_stands }

-- tables with this cell in its place
put : Tables → Cell → Tables
put t (cell.Cache s e x) = record { protocol = t.protocol; cache = cache_table.with_cell t.cache s e x; directory = t.directory }
put t (cell.Directory s e x) = record { protocol = t.protocol; cache = t.cache; directory = directory_table.with_cell t.directory s e x }

put-here : (t : Tables) (c : Cell) → AreWhole t → cell_at (put t c) (place_of c) ≡ c
unfolding put
put-here t (cell.Cache s e x) h =
    ap (cell.Cache s e)
    (replaced-here cache_baseline.all_states cache_baseline.all_events cache_table.state_number cache_table.event_number cache-listed
    t.cache s e x h.cache.whole)
put-here t (cell.Directory s e x) h =
    ap (cell.Directory s e)
    (replaced-here directory_baseline.all_states directory_baseline.all_events directory_table.state_number directory_table.event_number directory-listed
    t.directory s e x h.directory.whole)

put-others : (t : Tables) (c : Cell) → AreWhole t → (s : CellPlace) → s ≢ place_of c → cell_at (put t c) s ≡ cell_at t s
unfolding put
put-others t (cell.Cache s e x) h (place.Cache u f) other =
    ap (cell.Cache u f)
    (replaced-other cache_baseline.all_states cache_baseline.all_events cache_table.state_number cache_table.event_number cache-listed t.cache s e x u f
    h.cache.whole (λ both. other (ap (λ z. place.Cache z f) both.0 ∙ ap (place.Cache s) both.1)))
put-others t (cell.Cache s e x) h (place.Directory u f) other = refl
put-others t (cell.Directory s e x) h (place.Cache u f) other = refl
put-others t (cell.Directory s e x) h (place.Directory u f) other =
    ap (cell.Directory u f)
    (replaced-other directory_baseline.all_states directory_baseline.all_events directory_table.state_number directory_table.event_number
    directory-listed t.directory s e x u f h.directory.whole (λ both. other (ap (λ z. place.Directory z f) both.0 ∙ ap (place.Directory s) both.1)))

put-cache : (t : Tables) (c : Cell) → AreWhole t → is_known t.protocol c ≡ true → cache_keeping.IsCacheTable (put t c).protocol (put t c).cache
unfolding put
put-cache t (cell.Cache s e x) h known = record {
  whole =
      HasSize-replaced cache_baseline.all_states 13 cache_table.state_number cache_table.event_number cache_standing.state_stands
      t.cache s e x h.cache.whole;
  keeps = cache-keeps t.protocol t.cache s e x h.cache known;
}
put-cache t (cell.Directory s e x) h known = h.cache

put-directory : (t : Tables) (c : Cell) → AreWhole t → is_known t.protocol c ≡ true → directory_keeping.IsDirectoryTable (put t c).protocol (put t c).directory
unfolding put
put-directory t (cell.Cache s e x) h known = h.directory
put-directory t (cell.Directory s e x) h known = record {
  whole =
      HasSize-replaced directory_baseline.all_states 7 directory_table.state_number directory_table.event_number directory_standing.state_stands
      t.directory s e x h.directory.whole;
  keeps = directory-keeps t.protocol t.directory s e x h.directory known;
}

put-protocol : (t : Tables) (c : Cell) → (put t c).protocol ≡ t.protocol
unfolding put
put-protocol t (cell.Cache s e x) = refl
put-protocol t (cell.Directory s e x) = refl

put-whole : (t : Tables) (c : Cell) → AreWhole t → FitsCell c → is_known t.protocol c ≡ true → AreWhole (put t c)
put-whole t c h fits known =
    whole-more t (put t c) c (put-here t c h) (put-others t c h) (put-cache t c h known) (put-directory t c h known) h fits

-- tables of a protocol that differ from its own in just these cells
record Made (protocol : Protocol) (cells : List Cell) : Type 0 where
  tables : Tables
  whole : AreWhole tables
  same : tables.protocol ≡ protocol
  just : changed_cells tables ≡ cells

made-from : (p : Protocol) (t : Tables) (from : ℕ) (cs : List Cell) → t.protocol ≡ p → AreWhole t → from ≤ 184 → IsBaselineFrom from t →
    AreListed t.protocol from cs → Made p (changed t (take from all_places) ++ cs)
made-from p t from [] same h low plain listed =
    record { tables = t; whole = h; same = same; just = sym (listed-all t from low plain) ∙ sym (append-nil (changed t (take from all_places))) }
made-from p t from (c ∷ cs) same h low plain listed =
    let own = at-own (place_of c) in
    let kept : (put t c).protocol ≡ t.protocol = put-protocol t c in
    let others = put-others t c h in
    let more = listed-more t (put t c) from c kept plain listed.0 (put-here t c h) others in
    let rest =
    made-from p (put t c) (place_number (place_of c) + 1) cs (kept ∙ same) (put-whole t c h listed.0.fits listed.0.known) (omega (arith, own.1))
    (plain-more t (put t c) from c kept plain listed.0.in_order others)
    (subst (λ q. AreListed q (place_number (place_of c) + 1) cs) (sym kept) listed.1) in
    subst (Made p) (ap (λ l. l ++ cs) more ∙ append_assoc (changed t (take from all_places)) (c ∷ []) cs) rest

made-of : (p : Protocol) (cs : List Cell) → AreListed p 0 cs → Made p cs
made-of p cs listed = made-from p (baseline_of p) 0 cs refl (baseline-whole p) (omega arith) (λ s high. refl) listed

-- ---- lines

-- a line stands first
record Begins (due : Due) (ls : List (List ℕ)) (last : Due) : Type 0 where
  first : List ℕ
  rest : List (List ℕ)
  next : Due
  is : ls ≡ first ∷ rest
  leads : Leads due (words first) next
  follow : Follow next rest last

begins-of : (due : Due) (ls : List (List ℕ)) (last : Due) → due ≢ last → Follow due ls last → Begins due ls last
begins-of due [] last other f = absurd (other f)
begins-of due (l ∷ ls) last other f = record { first = l; rest = ls; next = f.0; is = refl; leads = f.1; follow = f.2 }

-- where one thing is due behind it
turned : (due to : Due) (ls : List (List ℕ)) (last : Due) → due ≡ to → Follow due ls last → Follow to ls last
turned due to ls last is f = subst (λ d. Follow d ls last) is f

none-behind : (ls : List (List ℕ)) → Follow Nothing ls Nothing → ls ≡ []
none-behind [] f = refl
none-behind (l ∷ ls) f = absurd f.1

one-line : (ls rest : List (List ℕ)) (l : List ℕ) (ws : List (List ℕ)) → ls ≡ l ∷ rest → words l ≡ ws → flat_map ended ls ≡ line ws ++ flat_map ended rest
one-line ls rest l ws is spelled = ap (flat_map ended) is ∙ ap (λ x. x ++ flat_map ended rest) (ended-line l ws spelled)

-- the lines of so many cells, and others
record Cells (f : TextHead) (from count : ℕ) (ls : List (List ℕ)) : Type 0 where
  cells : List Cell
  rest : List (List ℕ)
  listed : AreListed f.protocol from cells
  many : length cells ≡ count
  follow : Follow (EntryCount f) rest Nothing
  bytes : flat_map ended ls ≡ flat_map line (map cell_words cells) ++ flat_map ended rest

cells-of : (f : TextHead) (n from : ℕ) (ls : List (List ℕ)) → Follow (cells_due f n from) ls Nothing → Cells f from n ls
cells-of f zero from ls g = record { cells = []; rest = ls; listed = tt; many = refl; follow = g; bytes = refl }
cells-of f (suc n) from ls g =
    let b = begins-of (CellLine f (suc n) from) ls Nothing (λ e. cc) g in
    let c : Cell = b.leads.0 in
    let left : suc n - 1 ≡ n = omega arith in
    let more =
    cells-of f n (place_number (place_of c) + 1) b.rest
    (turned b.next _ b.rest Nothing (b.leads.3 ∙ ap (λ k. cells_due f k (place_number (place_of c) + 1)) left) b.follow) in
    record {
      cells = c ∷ more.cells;
      rest = more.rest;
      listed = (b.leads.1, more.listed);
      many = ap suc more.many;
      follow = more.follow;
      bytes =
          one-line ls b.rest b.first (cell_words c) b.is b.leads.2 ∙ ap (λ l. line (cell_words c) ++ l) more.bytes
          ∙ sym (append_assoc (line (cell_words c)) (flat_map line (map cell_words more.cells)) (flat_map ended more.rest));
    }

-- the lines of so many entries, and the last one
record Tolds (f : TextHead) (count : ℕ) (ls : List (List ℕ)) : Type 0 where
  tolds : List Told
  many : length tolds ≡ count
  fit : AllByRecursion (FitsTold f.seats) tolds
  bytes : flat_map ended ls ≡ flat_map line (map told_words tolds ++ end_words ∷ [])

tolds-of : (f : TextHead) (n : ℕ) (ls : List (List ℕ)) → Follow (entries_due f n) ls Nothing → Tolds f n ls
tolds-of f zero ls g =
    let b = begins-of (EndLine f) ls Nothing (λ e. cc) g in
    let none = none-behind b.rest (turned b.next Nothing b.rest Nothing b.leads.1 b.follow) in
    record {
      tolds = [];
      many = refl;
      fit = tt;
      bytes = one-line ls b.rest b.first end_words b.is b.leads.0 ∙ ap (λ l. line end_words ++ flat_map ended l) none;
    }
tolds-of f (suc n) ls g =
    let b = begins-of (EntryLine f (suc n)) ls Nothing (λ e. cc) g in
    let t : Told = b.leads.0 in
    let left : suc n - 1 ≡ n = omega arith in
    let more = tolds-of f n b.rest (turned b.next _ b.rest Nothing (b.leads.3 ∙ ap (entries_due f) left) b.follow) in
    record {
      tolds = t ∷ more.tolds;
      many = ap suc more.many;
      fit = (b.leads.1, more.fit);
      bytes = one-line ls b.rest b.first (told_words t) b.is b.leads.2 ∙ ap (λ l. line (told_words t) ++ l) more.bytes;
    }

-- ---- the lines behind the first, up to that of the opening values

record Head (v : Version) (ls : List (List ℕ)) : Type 0 where
  protocol : Protocol
  seats : ℕ
  shape : Extent
  opening : List ℕ
  rest : List (List ℕ)
  can : CanTell v protocol seats
  few : seats ≤ 64
  within : IsShapeIn v shape
  values : AreValues shape opening
  follow : Follow (CellCount (form v protocol seats)) rest Nothing
  bytes :
      flat_map ended ls ≡ flat_map line (protocol_lines v protocol ++ (shape_words shape ∷ seats_lines v seats ++ opening_words opening ∷ [])) ++
      flat_map ended rest

two-lines : (a b rest : List ℕ) → a ++ (b ++ rest) ≡ (a ++ (b ++ [])) ++ rest
two-lines a b rest = simp (append_assoc, append-nil)

four-lines : (a b c d rest : List ℕ) → a ++ (b ++ (c ++ (d ++ rest))) ≡ (a ++ (b ++ (c ++ (d ++ [])))) ++ rest
four-lines a b c d rest = simp (append_assoc, append-nil)

head-of : (v : Version) (ls : List (List ℕ)) → Follow (header_leads v) ls Nothing → Head v ls
head-of One ls g =
    let f : TextHead = form One Msi 0 in
    let b = begins-of (ShapeLine f) ls Nothing (λ e. cc) g in
    let d = begins-of (OpeningLine f b.leads.0) b.rest Nothing (λ e. cc) (turned b.next _ b.rest Nothing b.leads.3 b.follow) in
    record {
      protocol = Msi;
      seats = 0;
      shape = b.leads.0;
      opening = d.leads.0;
      rest = d.rest;
      can = (refl, refl);
      few = omega arith;
      within = b.leads.1;
      values = d.leads.1;
      follow = turned d.next _ d.rest Nothing d.leads.3 d.follow;
      bytes =
          one-line ls b.rest b.first (shape_words b.leads.0) b.is b.leads.2
          ∙ ap (λ l. line (shape_words b.leads.0) ++ l) (one-line b.rest d.rest d.first (opening_words d.leads.0) d.is d.leads.2)
          ∙ two-lines (line (shape_words b.leads.0)) (line (opening_words d.leads.0)) (flat_map ended d.rest);
    }
head-of Two ls g =
    let a = begins-of ProtocolLine ls Nothing (λ e. cc) g in
    let p : Protocol = a.leads.0 in
    let f : TextHead = form Two p 0 in
    let b = begins-of (ShapeLine f) a.rest Nothing (λ e. cc) (turned a.next _ a.rest Nothing a.leads.2 a.follow) in
    let c = begins-of (SeatsLine f b.leads.0) b.rest Nothing (λ e. cc) (turned b.next _ b.rest Nothing b.leads.3 b.follow) in
    let n : ℕ = c.leads.0 in
    let d = begins-of (OpeningLine (form Two p n) b.leads.0) c.rest Nothing (λ e. cc) (turned c.next _ c.rest Nothing c.leads.3 c.follow) in
    record {
      protocol = p;
      seats = n;
      shape = b.leads.0;
      opening = d.leads.0;
      rest = d.rest;
      can = tt;
      few = c.leads.1;
      within = b.leads.1;
      values = d.leads.1;
      follow = turned d.next _ d.rest Nothing d.leads.3 d.follow;
      bytes =
          one-line ls a.rest a.first (protocol_words p) a.is a.leads.1
          ∙ ap (λ l. line (protocol_words p) ++ l) (one-line a.rest b.rest b.first (shape_words b.leads.0) b.is b.leads.2
          ∙ ap (λ l. line (shape_words b.leads.0) ++ l) (one-line b.rest c.rest c.first (seats_words n) c.is c.leads.2
          ∙ ap (λ l. line (seats_words n) ++ l) (one-line c.rest d.rest d.first (opening_words d.leads.0) d.is d.leads.2)))
          ∙ four-lines (line (protocol_words p)) (line (shape_words b.leads.0)) (line (seats_words n)) (line (opening_words d.leads.0)) (flat_map ended d.rest);
    }

-- ---- whole texts

-- a recording whose text is these bytes
abbrev IsTextOf : Version → List ℕ → RecordingView → Type 0
IsTextOf v bytes r = IsRecordable r × HasTextIn v r × (bytes ≡ text v r)

tail_text : List Cell → List Told → List ℕ
tail_text cs ts =
    line (cells_words (length cs)) ++
    (flat_map line (map cell_words cs) ++ (line (entries_words (length ts)) ++ flat_map line (map told_words ts ++ end_words ∷ [])))

tail-is : (cs : List Cell) (ts : List Told) →
    flat_map line (cells_words (length cs) ∷ map cell_words cs ++ (entries_words (length ts) ∷ map told_words ts ++ end_words ∷ [])) ≡ tail_text cs ts
unfolding tail_text
tail-is cs ts =
    ap (λ l. line (cells_words (length cs)) ++ l) (flat_map-append line (map cell_words cs) (entries_words (length ts) ∷ map told_words ts ++ end_words ∷ []))

tail-of : (f : TextHead) (ls : List (List ℕ)) → Follow (CellCount f) ls Nothing →
    (cs : List Cell) × (ts : List Told) × AreListed f.protocol 0 cs × (length ts ≤ 1000000) × AllByRecursion (FitsTold f.seats) ts ×
    (flat_map ended ls ≡ tail_text cs ts)
unfolding tail_text
tail-of f ls g =
    let b = begins-of (CellCount f) ls Nothing (λ e. cc) g in
    let c = cells-of f b.leads.0 0 b.rest (turned b.next _ b.rest Nothing b.leads.3 b.follow) in
    let d = begins-of (EntryCount f) c.rest Nothing (λ e. cc) c.follow in
    let e = tolds-of f d.leads.0 d.rest (turned d.next _ d.rest Nothing d.leads.3 d.follow) in (
      c.cells,
      e.tolds,
      c.listed,
      omega (arith, e.many, d.leads.1),
      e.fit,
      one-line ls b.rest b.first (cells_words (length c.cells)) b.is (b.leads.2 ∙ ap cells_words (sym c.many))
          ∙ ap (λ l. line (cells_words (length c.cells)) ++ l) (c.bytes
          ∙ ap (λ l. flat_map line (map cell_words c.cells) ++ l)
          (one-line c.rest d.rest d.first (entries_words (length e.tolds)) d.is (d.leads.2 ∙ ap entries_words (sym e.many))
          ∙ ap (λ l. line (entries_words (length e.tolds)) ++ l) e.bytes)),
    )

-- a recording of these parts has these bytes behind its head
tail-told : (t : Tables) (ts : List Told) (owners : List ℕ) (entries : List Entry) → told owners entries ≡ ts → length ts ≡ length entries →
    tail_text (changed_cells t) ts ≡
    flat_map line (cells_words (length (changed_cells t)) ∷ map cell_words (changed_cells t) ++
    (entries_words (length entries) ∷ map told_words (told owners entries) ++ end_words ∷ []))
tail-told t ts owners entries is n =
    let cs : List Cell = changed_cells t in
    sym (tail-is cs ts)
    ∙ ap (λ k. flat_map line (cells_words (length cs) ∷ map cell_words cs ++ (entries_words k ∷ map told_words ts ++ end_words ∷ []))) n
    ∙ ap (λ us. flat_map line (cells_words (length cs) ∷ map cell_words cs ++ (entries_words (length entries) ∷ map told_words us ++ end_words ∷ []))) (sym is)

lines-text : (ls : List (List ℕ)) → Follow Header ls Nothing → (v : Version) × (r : RecordingView) × IsTextOf v (flat_map ended ls) r
lines-text ls f =
    let a = begins-of Header ls Nothing (λ e. cc) f in
    let v : Version = a.leads.0 in
    let h = head-of v a.rest (turned a.next _ a.rest Nothing a.leads.2 a.follow) in
    let rest = tail-of (form v h.protocol h.seats) h.rest h.follow in
    let made = made-of h.protocol rest.0 rest.2 in
    let ts : List Told = rest.1 in
    let entries : List Entry = entries_of ts in
    let owners : List ℕ = owners_of ts in
    let r : RecordingView = record {
      seats = h.seats;
      shape = h.shape;
      tables = made.tables;
      opening = h.opening;
      entries = entries;
      owners = owners;
    } in
    let n : length entries ≡ length ts = length-map ts (λ t. t.entry) in
    let few : length entries ≤ 1000000 = omega (arith, n, rest.3) in
    let tail : flat_map ended h.rest ≡ tail_text (changed_cells made.tables) ts = rest.5 ∙ ap (λ cs. tail_text cs ts) (sym made.just) in
    let all = tail-told made.tables ts owners entries (told-of h.seats ts rest.4) (sym n) in
    let head : List (List (List ℕ)) = protocol_lines v made.tables.protocol ++ (shape_words h.shape ∷ seats_lines v h.seats ++ opening_words h.opening ∷ []) in
    let headed = ap
    (λ p. flat_map line (protocol_lines v p ++ (shape_words h.shape ∷ seats_lines v h.seats ++ opening_words h.opening ∷ [])) ++ flat_map ended h.rest)
    (sym made.same) in (
      v,
      r,
      (
        record {
          shape = h.within.within;
          tables = made.whole;
          opening = h.values;
          few = few;
          owners = are-owners h.seats ts h.few rest.4;
          fits = All-from_recursion FitsEntry entries (entries-fit h.seats ts rest.4);
        },
        record { shape = h.within; told = subst (λ p. CanTell v p h.seats) (sym made.same) h.can },
        one-line ls a.rest a.first (header_words v) a.is a.leads.1
            ∙ ap (λ l. line (header_words v) ++ l) (h.bytes ∙ headed ∙ ap (λ l. flat_map line head ++ l) (tail ∙ all)
            ∙ sym (flat_map-append line head _)),
      ),
    )

pub whole-text_of : (bytes : List ℕ) → IsWellFormed (Some bytes) (Some []) →
    (v : Version) × (r : RecordingView) × IsRecordable r × HasTextIn v r × (bytes ≡ text v r)
whole-text_of bytes w =
    let found = lines-text w.lines w.follow in
    (found.0, found.1, found.2.0, found.2.1, w.read ∙ append-nil (flat_map ended w.lines) ∙ found.2.2)
