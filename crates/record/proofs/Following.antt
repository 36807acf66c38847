-- The lines of a recording follow one another, each as it is due.
use Rattle.std.proofs.Common.{◌≡◌, ◌≤◌, ◌+◌, ◌-◌, ℕ, zero, suc, Bool, true, false, not, inl, inr, List, [], ◌∷◌, ◌++◌, Some, length, map, refl, ap, sym, subst}
use Rattle.std.proofs.Common.{◌∙◌, arith, append-nil, cond}
use Rattle.std.specs.Prelude.{filter, ◌&&◌}
use Rattle.std.specs.List.{AllByRecursion, range_with_len}
use Rattle.std.proofs.lemmas.List.Elements.{All-from_recursion, recursion_from_All}
use Rattle.cache_table.specs.Table.{has_event, has_state}
use Rattle.tables.specs.CellPlaces.{all_places, place_number}
use Rattle.tables.specs.Tables.{Tables, baseline_of}
use Rattle.tables.specs.declared.cell_places.CellPlace.{CellPlace}
use Rattle.tables.specs.declared.cell_places.CellPlace.TheVariants as place
use Rattle.tables.proofs.CellPlaces.{numbers}
use Rattle.record_lines.specs.declared.cells.Cell.{Cell}
use Rattle.record_lines.specs.Cells.{cell_at, cell_words, is_known, is_same, most_cells, place_of}
use Rattle.record.specs.View.{RecordingView}
use Rattle.base.specs.Words.{joined}
use Rattle.record.specs.Text.{text, lines, told, is_changed, changed, changed_cells}
use Rattle.record_lines.specs.Text.{header_words, shape_words, opening_words, cells_words, entries_words, told_words, end_words}
use Rattle.base.specs.Extent.{Extent}
use Rattle.base.specs.declared.controller.protocol.Protocol.{Protocol}
use Rattle.base.specs.declared.controller.protocol.Protocol.TheVariants.{Msi, MsiE}
use Rattle.record_lines.specs.declared.due.Due.{Due}
use Rattle.record_lines.specs.declared.due.TextHead.{TextHead}
use Rattle.record_lines.specs.declared.told.Told.{Told}
use Rattle.record_lines.specs.declared.version.Version.{Version}
use Rattle.record_lines.specs.declared.version.Version.TheVariants.{One, Two}
use Rattle.record_lines.specs.Versions.{form, header_leads, shape_leads_in, most_bytes, protocol_lines, seats_lines}
use Rattle.record.specs.Versions.{HasTextIn}
use Rattle.record.proofs.Owners.{told-fit, told-length}
use Rattle.record_lines.specs.declared.due.Due.TheVariants.{Header, ProtocolLine, ShapeLine, SeatsLine, OpeningLine, CellCount, CellLine, EntryCount}
use Rattle.record_lines.specs.declared.due.Due.TheVariants.{EntryLine, EndLine, Nothing}
use Rattle.record_lines.specs.Grammar.{cells_due, entries_due, MayBeListed, FitsEntry, FitsTold, Leads, Follow}
use Rattle.record_lines.specs.Refused.{ended, limit, AreShort, IsWellFormed}
use Rattle.record.specs.Recordable.{AreWhole, IsRecordable}
use Rattle.record.proofs.Changed.{changed-cons}
use Rattle.record_lines.proofs.Legible.{IsLine, words-joined}
use Rattle.record_lines.proofs.Leading.{IsDue, few-most, leads-line, leads-due, leads-short}
use Rattle.record.proofs.Listed.{same-self}
use Rattle.record.proofs.Standing.{known-at, IsKnownAt}
use Rattle.record.proofs.Whole.{flat_map-map}

-- these lines of words are well formed one after the other
abbrev Followed : Due → List (List (List ℕ)) → Due → Type 0
Followed due [] last = due ≡ last
Followed due (ws ∷ more) last = (next : Due) × Leads due ws next × Followed next more last

followed-follow : (due last : Due) (xs : List (List (List ℕ))) → IsDue due → Followed due xs last → Follow due (map joined xs) last
followed-follow due last [] is f = f
followed-follow due last (x ∷ xs) is f =
    (f.0, subst (λ ws. Leads due ws f.0) (sym (words-joined x (leads-line due x f.0 is f.1))) f.1, followed-follow f.0 last xs (leads-due due x f.0 is f.1) f.2)

followed-lines : (due last : Due) (xs : List (List (List ℕ))) → IsDue due → Followed due xs last → AllByRecursion IsLine xs
followed-lines due last [] is f = tt
followed-lines due last (x ∷ xs) is f = (leads-line due x f.0 is f.1, followed-lines f.0 last xs (leads-due due x f.0 is f.1) f.2)

-- ---- the cells that differ

-- these cells may be listed one after the other, from this place on
abbrev pub AreListed : Protocol → ℕ → List Cell → Type 0
AreListed p from [] = Unit {0}
AreListed p from (c ∷ cs) = MayBeListed p from c × AreListed p (place_number (place_of c) + 1) cs

sooner : (p : Protocol) (from : ℕ) (cs : List Cell) → AreListed p (from + 1) cs → AreListed p from cs
sooner p from [] h = tt
sooner p from (c ∷ cs) h =
    (record { fits = h.0.fits; known = h.0.known; in_order = omega (arith, h.0.in_order); differs = h.0.differs }, h.1)

pub place-own : (t : Tables) (s : CellPlace) → place_of (cell_at t s) ≡ s
place-own t (place.Cache state event) = refl
place-own t (place.Directory state event) = refl

not-true : (b : Bool) → not b ≡ true → b ≡ false
not-true true e = cc
not-true false e = refl

pub changed-differs : (t : Tables) (s : CellPlace) → is_changed t s ≡ true →
    is_same (cell_at t s) (cell_at (baseline_of t.protocol) (place_of (cell_at t s))) ≡ false
changed-differs t s e =
    ap (λ p. is_same (cell_at t s) (cell_at (baseline_of t.protocol) p)) (place-own t s)
    ∙ not-true (is_same (cell_at t s) (cell_at (baseline_of t.protocol) s)) e

changed-known : (t : Tables) (s : CellPlace) → IsKnownAt t s → is_changed t s ≡ true → is_known t.protocol (cell_at t s) ≡ true
changed-known t s (inr known) e = known
changed-known t s (inl own) e =
    let o : Cell = cell_at (baseline_of t.protocol) s in
    let same : is_same (cell_at t s) o ≡ true = ap (λ c. is_same c o) own ∙ same-self o in
    let other : is_same (cell_at t s) o ≡ false = not-true _ e in
    let no : true ≡ false = sym same ∙ other in absurd (cc)

listed-one : (t : Tables) (s : CellPlace) (ss : List CellPlace) (a : ℕ) (b : Bool) → AreWhole t → is_changed t s ≡ b → place_number s ≡ a →
    AreListed t.protocol (a + 1) (changed t ss) → AreListed t.protocol a (changed t (s ∷ ss))
listed-one t s ss a true whole e here rest =
    let numbered : place_number (place_of (cell_at t s)) ≡ a = ap place_number (place-own t s) ∙ here in
    let first : MayBeListed t.protocol a (cell_at t s) = record {
      fits = whole.fits s;
      known = changed-known t s (known-at t whole s) e;
      in_order = omega (arith, numbered);
      differs = changed-differs t s e;
    } in
    subst (AreListed t.protocol a) (sym (changed-cons t s ss true e))
    (first, subst (λ n. AreListed t.protocol (n + 1) (changed t ss)) (sym numbered) rest)
listed-one t s ss a false whole e here rest =
    subst (AreListed t.protocol a) (sym (changed-cons t s ss false e)) (sooner t.protocol a (changed t ss) rest)

-- the cells that differ are listed in order, at places that are
pub listed-from : (t : Tables) → AreWhole t → (places : List CellPlace) (a n : ℕ) → map place_number places ≡ range_with_len a n →
    AreListed t.protocol a (changed t places)
listed-from t whole [] a n e = tt
listed-from t whole (s ∷ ss) a zero e = absurd (cc)
listed-from t whole (s ∷ ss) a (suc n) e =
    let here : place_number s ≡ a = cc in
    let rest : map place_number ss ≡ range_with_len (a + 1) n = cc in
    listed-one t s ss a (is_changed t s) whole refl here (listed-from t whole ss (a + 1) n rest)

-- whether a protocol has a place
abbrev has_place : Protocol → CellPlace → Bool
has_place p (place.Cache state event) = has_state p state && has_event p event
has_place p (place.Directory state event) = true

both-first : (a b c : Bool) → (a && b && c) ≡ true → (a && b) ≡ true
both-first true true c e = refl
both-first true false c e = cc
both-first false b c e = cc

known-place : (t : Tables) (s : CellPlace) → is_known t.protocol (cell_at t s) ≡ true → has_place t.protocol s ≡ true
known-place t (place.Cache state event) e = both-first (has_state t.protocol state) (has_event t.protocol event) _ e
known-place t (place.Directory state event) e = refl

had-cons : (p : Protocol) (s : CellPlace) (ss : List CellPlace) (b : Bool) → has_place p s ≡ b →
    filter (has_place p) (s ∷ ss) ≡ cond b (s ∷ filter (has_place p) ss) (filter (has_place p) ss)
had-cons p s ss b e = ap (λ (x : Bool). cond x (s ∷ filter (has_place p) ss) (filter (has_place p) ss)) e

fewer : (t : Tables) (s : CellPlace) (ss : List CellPlace) (b c : Bool) → is_changed t s ≡ b → has_place t.protocol s ≡ c → (b ≡ true → c ≡ true) →
    length (changed t ss) ≤ length (filter (has_place t.protocol) ss) → length (changed t (s ∷ ss)) ≤ length (filter (has_place t.protocol) (s ∷ ss))
fewer t s ss true true e f known few = omega (arith, ap length (changed-cons t s ss true e), ap length (had-cons t.protocol s ss true f), few)
fewer t s ss true false e f known few = absurd (cc (known refl))
fewer t s ss false true e f known few = omega (arith, ap length (changed-cons t s ss false e), ap length (had-cons t.protocol s ss true f), few)
fewer t s ss false false e f known few = omega (arith, ap length (changed-cons t s ss false e), ap length (had-cons t.protocol s ss false f), few)

-- only places that the protocol has are changed
few-changed : (t : Tables) → AreWhole t → (places : List CellPlace) → length (changed t places) ≤ length (filter (has_place t.protocol) places)
few-changed t whole [] = omega arith
few-changed t whole (s ∷ ss) =
    fewer t s ss (is_changed t s) (has_place t.protocol s) refl refl
    (λ e. known-place t s (changed-known t s (known-at t whole s) e)) (few-changed t whole ss)

had-places : (p : Protocol) → length (filter (has_place p) all_places) ≡ most_cells p
had-places Msi = refl
had-places MsiE = refl

pub few-cells : (t : Tables) → AreWhole t → length (changed_cells t) ≤ most_cells t.protocol
few-cells t whole = omega (arith, few-changed t whole all_places, had-places t.protocol)

pub few-listed : (t : Tables) → AreWhole t → length (changed_cells t) ≤ 184
few-listed t whole = omega (arith, few-cells t whole, few-most t.protocol)

cells-followed : (f : TextHead) (cs : List Cell) (from : ℕ) (rest : List (List (List ℕ))) → AreListed f.protocol from cs →
    Followed (EntryCount f) rest Nothing → Followed (cells_due f (length cs) from) (map cell_words cs ++ rest) Nothing
cells-followed f [] from rest h g = g
cells-followed f (c ∷ cs) from rest h g =
    let n : ℕ = place_number (place_of c) + 1 in
    let left : length cs ≡ suc (length cs) - 1 = omega arith in
    (cells_due f (length cs) n, (c, h.0, refl, ap (λ k. cells_due f k n) left), cells-followed f cs n rest h.1 g)

-- ---- the entries

told-followed : (f : TextHead) (ts : List Told) → AllByRecursion (FitsTold f.seats) ts →
    Followed (entries_due f (length ts)) (map told_words ts ++ end_words ∷ []) Nothing
told-followed f [] h = (Nothing, (refl, refl), refl)
told-followed f (t ∷ ts) h =
    let left : length ts ≡ suc (length ts) - 1 = omega arith in
    (entries_due f (length ts), (t, h.0, refl, ap (entries_due f) left), told-followed f ts h.1)

-- ---- the whole text

tail_lines : RecordingView → List (List (List ℕ))
tail_lines r =
    cells_words (length (changed_cells r.tables)) ∷ map cell_words (changed_cells r.tables) ++
    (entries_words (length r.entries) ∷ map told_words (told r.owners r.entries) ++ end_words ∷ [])

tail-followed : (f : TextHead) (r : RecordingView) → IsRecordable r → f.protocol ≡ r.tables.protocol → f.seats ≡ r.seats →
    Followed (CellCount f) (tail_lines r) Nothing
unfolding tail_lines
tail-followed f r h protocol seats =
    let ts : List Told = told r.owners r.entries in
    let n : length ts ≡ length r.entries = told-length r.owners r.entries in
    let fits : AllByRecursion (FitsTold f.seats) ts =
    subst (λ k. AllByRecursion (FitsTold k) ts) (sym seats) (told-fit r.seats r.owners r.entries h.owners (recursion_from_All FitsEntry r.entries h.fits)) in
    let entries : Followed (EntryCount f) (entries_words (length r.entries) ∷ map told_words ts ++ end_words ∷ []) Nothing =
    (entries_due f (length ts), (length r.entries, h.few, refl, ap (entries_due f) n), told-followed f ts fits) in (
      cells_due f (length (changed_cells r.tables)) 0,
      (length (changed_cells r.tables), subst (λ p. length (changed_cells r.tables) ≤ most_cells p) (sym protocol) (few-cells r.tables h.tables), refl, refl),
      cells-followed f (changed_cells r.tables) 0 _
          (subst (λ p. AreListed p 0 (changed_cells r.tables)) (sym protocol) (listed-from r.tables h.tables all_places 0 184 numbers)) entries,
    )

-- the lines behind the first
abbrev lines_behind : Version → RecordingView → List (List (List ℕ))
lines_behind version r =
    (protocol_lines version r.tables.protocol ++ (shape_words r.shape ∷ seats_lines version r.seats ++ opening_words r.opening ∷ [])) ++
    (cells_words (length (changed_cells r.tables)) ∷ map cell_words (changed_cells r.tables) ++
    (entries_words (length r.entries) ∷ map told_words (told r.owners r.entries) ++ end_words ∷ []))

behind-followed : (v : Version) (r : RecordingView) → IsRecordable r → HasTextIn v r → Followed (header_leads v) (lines_behind v r) Nothing
unfolding tail_lines
behind-followed One r h t =
    let f : TextHead = form One Msi 0 in (
      OpeningLine f r.shape,
      (r.shape, t.shape, refl, refl),
      (CellCount f, (r.opening, h.opening, refl, refl), tail-followed f r h (sym t.told.0) (sym t.told.1)),
    )
behind-followed Two r h t =
    let f : TextHead = form Two r.tables.protocol 0 in
    let g : TextHead = form Two r.tables.protocol r.seats in (
      ShapeLine f,
      (r.tables.protocol, refl, refl),
      (
        SeatsLine f r.shape,
        (r.shape, t.shape, refl, refl),
        (
          OpeningLine g r.shape,
          (r.seats, h.owners.few, refl, refl),
          (CellCount g, (r.opening, h.opening, refl, refl), tail-followed g r h refl refl),
        ),
      ),
    )

lines-followed : (v : Version) (r : RecordingView) → IsRecordable r → HasTextIn v r → Followed Header (lines v r) Nothing
lines-followed v r h t = (header_leads v, (v, refl, refl), behind-followed v r h t)

pub recorded-lines : (v : Version) (r : RecordingView) → IsRecordable r → HasTextIn v r → AllByRecursion IsLine (lines v r)
recorded-lines v r h t = followed-lines Header Nothing (lines v r) tt (lines-followed v r h t)

-- the text of a recording is well formed from the first line to the last
pub text-whole : (v : Version) (r : RecordingView) → IsRecordable r → HasTextIn v r → IsWellFormed (Some (text v r)) (Some [])
text-whole v r h t = record {
  lines = map joined (lines v r);
  follow = followed-follow Header Nothing (lines v r) tt (lines-followed v r h t);
  read = sym (append-nil _ ∙ flat_map-map ended joined (lines v r));
  end = refl;
}

-- ---- and its lines are short

-- a line of this version is due, and none of the first
IsBehind : Version → Due → Type 0
IsBehind v Header = ⊥
IsBehind v ProtocolLine = v ≡ Two
IsBehind v (ShapeLine f) = f.version ≡ v
IsBehind v (SeatsLine f shape) = f.version ≡ v
IsBehind v (OpeningLine f shape) = f.version ≡ v
IsBehind v (CellCount f) = f.version ≡ v
IsBehind v (CellLine f left from) = f.version ≡ v
IsBehind v (EntryCount f) = f.version ≡ v
IsBehind v (EntryLine f left) = f.version ≡ v
IsBehind v (EndLine f) = f.version ≡ v
IsBehind v Nothing = Unit {0}

behind-header : (v : Version) → IsBehind v (header_leads v)
unfolding IsBehind
behind-header One = refl
behind-header Two = refl

behind-shape : (v w : Version) (f : TextHead) (shape : Extent) → f.version ≡ v → IsBehind v (shape_leads_in w f shape)
unfolding IsBehind
behind-shape v One f shape is = is
behind-shape v Two f shape is = is

behind-cells : (v : Version) (f : TextHead) (n from : ℕ) → f.version ≡ v → IsBehind v (cells_due f n from)
unfolding IsBehind
behind-cells v f zero from is = is
behind-cells v f (suc n) from is = is

behind-entries : (v : Version) (f : TextHead) (n : ℕ) → f.version ≡ v → IsBehind v (entries_due f n)
unfolding IsBehind
behind-entries v f zero is = is
behind-entries v f (suc n) is = is

still-behind : (v : Version) (due : Due) (line : List (List ℕ)) (next : Due) → IsBehind v due → Leads due line next → IsBehind v next
unfolding IsBehind
still-behind v Header line next is l = absurd is
still-behind v ProtocolLine line next is l = subst (IsBehind v) (sym l.2) (sym is)
still-behind v (ShapeLine f) line next is l = subst (IsBehind v) (sym l.3) (behind-shape v f.version f l.0 is)
still-behind v (SeatsLine f shape) line next is l = subst (IsBehind v) (sym l.3) is
still-behind v (OpeningLine f shape) line next is l = subst (IsBehind v) (sym l.3) is
still-behind v (CellCount f) line next is l = subst (IsBehind v) (sym l.3) (behind-cells v f l.0 0 is)
still-behind v (CellLine f left from) line next is l = subst (IsBehind v) (sym l.3) (behind-cells v f _ _ is)
still-behind v (EntryCount f) line next is l = subst (IsBehind v) (sym l.3) (behind-entries v f l.0 is)
still-behind v (EntryLine f left) line next is l = subst (IsBehind v) (sym l.3) (behind-entries v f _ is)
still-behind v (EndLine f) line next is l = subst (IsBehind v) (sym l.1) tt
still-behind v Nothing line next is l = absurd l

its-limit : (v : Version) (due : Due) (line : List (List ℕ)) (next : Due) → IsBehind v due → Leads due line next → limit due ≡ most_bytes v
unfolding IsBehind
its-limit v Header line next is l = absurd is
its-limit v ProtocolLine line next is l = ap most_bytes (sym is)
its-limit v (ShapeLine f) line next is l = ap most_bytes is
its-limit v (SeatsLine f shape) line next is l = ap most_bytes is
its-limit v (OpeningLine f shape) line next is l = ap most_bytes is
its-limit v (CellCount f) line next is l = ap most_bytes is
its-limit v (CellLine f left from) line next is l = ap most_bytes is
its-limit v (EntryCount f) line next is l = ap most_bytes is
its-limit v (EntryLine f left) line next is l = ap most_bytes is
its-limit v (EndLine f) line next is l = ap most_bytes is
its-limit v Nothing line next is l = absurd l

followed-short : (v : Version) (due last : Due) (xs : List (List (List ℕ))) → IsBehind v due → IsDue due → Followed due xs last →
    AllByRecursion (λ ws. length (joined ws) ≤ most_bytes v) xs
followed-short v due last [] behind is f = tt
followed-short v due last (x ∷ xs) behind is f = (
  omega (arith, leads-short due x f.0 is f.1, its-limit v due x f.0 behind f.1),
  followed-short v f.0 last xs (still-behind v due x f.0 behind f.1) (leads-due due x f.0 is f.1) f.2,
)

pub lines-short : (v : Version) (r : RecordingView) → IsRecordable r → HasTextIn v r → AreShort v (lines v r)
lines-short v r h t =
    let first = leads-short Header (header_words v) (header_leads v) tt (v, refl, refl) in
    let due : IsDue (header_leads v) = leads-due Header (header_words v) (header_leads v) tt (v, refl, refl) in (
      first,
      All-from_recursion (λ ws. length (joined ws) ≤ most_bytes v) (lines_behind v r)
          (followed-short v (header_leads v) Nothing (lines_behind v r) (behind-header v) due (behind-followed v r h t)),
    )
