-- A text is the text of one recording.
use Rattle.std.proofs.Common.{◌≡◌, ◌<◌, ◌≤◌, ◌+◌, ◌^◌, ℕ, zero, suc, Bool, true, false, List, [], ◌∷◌, ◌++◌, Option, None, Some, length, map, get_or}
use Rattle.std.proofs.Common.{refl, ap, sym, subst, ◌∙◌, arith, append-nil, codes}
use Rattle.std.specs.List.{AllByRecursion, flat_map, range_with_len}
use Rattle.std.specs.Fmt.{decimal}
use Rattle.std.proofs.lemmas.Fmt.{decimal_injective}
use Rattle.std.proofs.lemmas.List.Elements.{recursion_from_All}
use Rattle.base.specs.Words.{words, joined}
use Rattle.base.specs.Spelling.{outcome_words, FitsOutcome}
use Rattle.base.specs.declared.ids.CacheId.{CacheId}
use Rattle.base.specs.declared.step.Step.{Step}
use Rattle.base.specs.declared.step.Outcome.{Outcome}
use Rattle.base.specs.declared.step.Outcome.TheVariants as outcome
use Rattle.base.proofs.Spellings.{same_step}
use Rattle.base.specs.Extent.{Extent}
use Rattle.tables.specs.CellPlaces.{all_places, place_number}
use Rattle.tables.specs.Tables.{Tables, baseline_of}
use Rattle.tables.specs.declared.cell_places.CellPlace.{CellPlace}
use Rattle.tables.proofs.CellPlaces.{numbers, some_place, at-own}
use Rattle.record_lines.specs.declared.cells.Cell.{Cell}
use Rattle.record_lines.specs.declared.entry.Entry.{Entry}
use Rattle.record_lines.specs.Cells.{cell_at, cell_words}
use Rattle.record.specs.View.{RecordingView}
use Rattle.record.specs.Text.{text, lines, told, is_changed, changed, changed_cells}
use Rattle.record_lines.specs.Text.{line, shape_words, opening_words, cells_words, entries_words, entry_words, told_words, end_words}
use Rattle.record_lines.specs.declared.due.Due.TheVariants.{Header}
use Rattle.record_lines.specs.declared.told.Told.{Told}
use Rattle.record_lines.specs.declared.version.Version.{Version}
use Rattle.record_lines.specs.declared.version.Version.TheVariants.{One, Two}
use Rattle.record.specs.Versions.{HasTextIn}
use Rattle.record.proofs.Owners.{entries-told, entries_of, owners-told, owners_of, tell, told-fit, told-length}
use Rattle.record_lines.specs.Grammar.{FitsEntry, FitsTold}
use Rattle.record_lines.specs.declared.fault.ReadKind.{ReadKind}
use Rattle.record_lines.specs.Refused.{IsOutside, IsRefused}
use Rattle.std.specs.Io.KnownBytes.{Consumes}
use Rattle.record.specs.Recordable.{AreWhole, IsRecordable}
use Rattle.record_lines.proofs.Alike.{cell-same, unchanged}
use Rattle.record.proofs.Changed.{changed-cons}
use Rattle.record_lines.proofs.Legible.{IsLine, joined-open, words-joined}
use Rattle.record_lines.proofs.Ending.{some-line, one-line_first}
use Rattle.record_lines.proofs.Leading.{count-same, protocol-same, shape-same, version-same}
use Rattle.record_lines.proofs.Faulting.{by-same, same-halves}
use Rattle.record.proofs.Following.{AreListed, place-own, listed-from, few-listed, recorded-lines, text-whole}
use Rattle.record_lines.proofs.Refusals.{whole-alone, whole-refused}
use Rattle.record.proofs.Tabled.{tables-same}

-- ---- lines

line-same : (ws vs : List (List ℕ)) (x y : List ℕ) → IsLine ws → IsLine vs → line ws ++ x ≡ line vs ++ y → (ws ≡ vs) × (x ≡ y)
line-same ws vs x y h k e =
    let same = one-line_first (joined ws) (joined vs) x y (joined-open ws h) (joined-open vs k) e in
    (sym (words-joined ws h) ∙ ap words same.0 ∙ words-joined vs k, same.1)

lines-same : (xs ys : List (List (List ℕ))) → AllByRecursion IsLine xs → AllByRecursion IsLine ys → flat_map line xs ≡ flat_map line ys → xs ≡ ys
lines-same [] [] h k e = refl
lines-same [] (y ∷ ys) h k e = absurd (some-line (joined y) (flat_map line ys) e)
lines-same (x ∷ xs) [] h k e = absurd (some-line (joined x) (flat_map line xs) (sym e))
lines-same (x ∷ xs) (y ∷ ys) h k e =
    let same = line-same x y (flat_map line xs) (flat_map line ys) h.0 k.0 e in
    ap (λ l. l ∷ xs) same.0 ∙ ap (λ l. y ∷ l) (lines-same xs ys h.1 k.1 same.1)

-- ---- entries

cache-same : (c d : CacheId) → c.0 < 2 ^ 32 → d.0 < 2 ^ 32 → decimal c.0 ≡ decimal d.0 → c ≡ d
cache-same c d low below e = ap (λ n. record { 0 = n }) (decimal_injective c.0 d.0 (omega arith) (omega arith) e)

abbrev first_byte : List (List ℕ) → ℕ
first_byte parts = get_or (get_or parts 0 []) 0 0

outcome-same : (o p : Outcome) → FitsOutcome o → FitsOutcome p → outcome_words o ≡ outcome_words p → o ≡ p
outcome-same (outcome.Load c v) (outcome.Load d w) f g e = cc (cache-same c d f.0 g.0 cc, decimal_injective v w f.1 g.1 cc)
outcome-same (outcome.Load c v) other f g e = cc
outcome-same (outcome.Store c v) (outcome.Store d w) f g e = cc (cache-same c d f.0 g.0 cc, decimal_injective v w f.1 g.1 cc)
outcome-same (outcome.Store c v) other f g e = cc
outcome-same outcome.Sent outcome.Held f g e = let first : 115 ≡ 104 = ap first_byte e in absurd (omega (arith, first))
outcome-same outcome.Sent outcome.Idle f g e = let first : 115 ≡ 105 = ap first_byte e in absurd (omega (arith, first))
outcome-same outcome.Sent other f g e = cc
outcome-same outcome.Held outcome.Sent f g e = let first : 104 ≡ 115 = ap first_byte e in absurd (omega (arith, first))
outcome-same outcome.Held outcome.Idle f g e = let first : 104 ≡ 105 = ap first_byte e in absurd (omega (arith, first))
outcome-same outcome.Held other f g e = cc
outcome-same outcome.Idle outcome.Sent f g e = let first : 105 ≡ 115 = ap first_byte e in absurd (omega (arith, first))
outcome-same outcome.Idle outcome.Held f g e = let first : 105 ≡ 104 = ap first_byte e in absurd (omega (arith, first))
outcome-same outcome.Idle other f g e = cc
outcome-same outcome.Moved outcome.Blank f g e = let first : 109 ≡ 98 = ap first_byte e in absurd (omega (arith, first))
outcome-same outcome.Moved other f g e = cc
outcome-same outcome.Blank outcome.Moved f g e = let first : 98 ≡ 109 = ap first_byte e in absurd (omega (arith, first))
outcome-same outcome.Blank other f g e = cc
outcome-same outcome.Absent outcome.Broken f g e = let first : 97 ≡ 98 = ap first_byte e in absurd (omega (arith, first))
outcome-same outcome.Absent other f g e = cc
outcome-same outcome.Broken outcome.Absent f g e = let first : 98 ≡ 97 = ap first_byte e in absurd (omega (arith, first))
outcome-same outcome.Broken other f g e = cc

abbrev made : Step → Outcome → Entry
made step outcome = record { step = step; outcome = outcome }

entry-same : (e f : Entry) → FitsEntry e → FitsEntry f → entry_words e ≡ entry_words f → e ≡ f
entry-same e f h k is =
    let halves = same-halves e.step f.step (outcome_words e.outcome) (outcome_words f.outcome) h.0 k.0 is in
    ap (λ s. made s e.outcome) (same_step e.step f.step h.0 k.0 halves.0) ∙ ap (made f.step) (outcome-same e.outcome f.outcome h.1 k.1 halves.1)

-- an entry with its owner
told-same : (seats : ℕ) (t u : Told) → seats ≤ 64 → FitsTold seats t → FitsTold seats u → told_words t ≡ told_words u → t ≡ u
told-same seats t u few h k e =
    let halves = by-same seats t.owner u.owner (entry_words t.entry) (entry_words u.entry) few h.0 k.0 e in
    ap (λ o. tell o t.entry) halves.0 ∙ ap (tell u.owner) (entry-same t.entry u.entry h.1 k.1 halves.1)

-- ---- lists of them

values-same : (vs ws : List ℕ) → AllByRecursion (λ value. value < 2 ^ 64) vs → AllByRecursion (λ value. value < 2 ^ 64) ws →
    map decimal vs ≡ map decimal ws → vs ≡ ws
values-same [] [] h k e = refl
values-same [] (w ∷ ws) h k e = absurd (cc)
values-same (v ∷ vs) [] h k e = absurd (cc)
values-same (v ∷ vs) (w ∷ ws) h k e = cc (decimal_injective v w h.0 k.0 cc, values-same vs ws h.1 k.1 cc)

cells-same : (cs ds : List Cell) (us vs : List (List (List ℕ))) → length cs ≡ length ds → map cell_words cs ++ us ≡ map cell_words ds ++ vs →
    (cs ≡ ds) × (us ≡ vs)
cells-same [] [] us vs n e = (refl, e)
cells-same [] (d ∷ ds) us vs n e = absurd (omega (arith, n))
cells-same (c ∷ cs) [] us vs n e = absurd (omega (arith, n))
cells-same (c ∷ cs) (d ∷ ds) us vs n e =
    let first : cell_words c ≡ cell_words d = cc in
    let rest : map cell_words cs ++ us ≡ map cell_words ds ++ vs = cc in
    let both = cells-same cs ds us vs (omega (arith, n)) rest in
    (ap (λ x. x ∷ cs) (cell-same c d first) ∙ ap (λ l. d ∷ l) both.0, both.1)

tolds-same : (seats : ℕ) (ts us : List Told) (xs ys : List (List (List ℕ))) → seats ≤ 64 → length ts ≡ length us → AllByRecursion (FitsTold seats) ts →
    AllByRecursion (FitsTold seats) us → map told_words ts ++ xs ≡ map told_words us ++ ys → ts ≡ us
tolds-same seats [] [] xs ys few n h k e = refl
tolds-same seats [] (u ∷ us) xs ys few n h k e = absurd (omega (arith, n))
tolds-same seats (t ∷ ts) [] xs ys few n h k e = absurd (omega (arith, n))
tolds-same seats (t ∷ ts) (u ∷ us) xs ys few n h k e =
    let first : told_words t ≡ told_words u = cc in
    let rest : map told_words ts ++ xs ≡ map told_words us ++ ys = cc in
    ap (λ z. z ∷ ts) (told-same seats t u few h.0 k.0 first) ∙ ap (λ l. u ∷ l) (tolds-same seats ts us xs ys few (omega (arith, n)) h.1 k.1 rest)

-- ---- tables

-- cells that are as the protocol's own in the same place are the same
plain-same : (t u : Tables) (s : CellPlace) → t.protocol ≡ u.protocol → is_changed t s ≡ false → is_changed u s ≡ false → cell_at t s ≡ cell_at u s
plain-same t u s p e f =
    unchanged t (baseline_of t.protocol) s e ∙ ap (λ q. cell_at (baseline_of q) s) p ∙ sym (unchanged u (baseline_of u.protocol) s f)

-- a cell isn't among those of later places
later : (t u : Tables) (s : CellPlace) (ss : List CellPlace) (a : ℕ) → AreListed u.protocol (a + 1) (changed u ss) → place_number s ≡ a →
    cell_at t s ∷ changed t ss ≡ changed u ss → ⊥
later t u s ss a listed here e =
    let first = (subst (AreListed u.protocol (a + 1)) (sym e) listed).0.in_order in
    absurd (omega (arith, first, ap place_number (place-own t s), here))

one-more : (t u : Tables) (s : CellPlace) (ss : List CellPlace) (a : ℕ) (b c : Bool) → t.protocol ≡ u.protocol → is_changed t s ≡ b → is_changed u s ≡ c →
    place_number s ≡ a → AreListed t.protocol (a + 1) (changed t ss) → AreListed u.protocol (a + 1) (changed u ss)
    → changed t (s ∷ ss) ≡ changed u (s ∷ ss) → (cell_at t s ≡ cell_at u s) × (changed t ss ≡ changed u ss)
one-more t u s ss a true true p x y here lt lu e =
    let both : cell_at t s ∷ changed t ss ≡ cell_at u s ∷ changed u ss = sym (changed-cons t s ss true x) ∙ e ∙ changed-cons u s ss true y in (cc, cc)
one-more t u s ss a false false p x y here lt lu e =
    (plain-same t u s p x y, sym (changed-cons t s ss false x) ∙ e ∙ changed-cons u s ss false y)
one-more t u s ss a true false p x y here lt lu e = absurd (later t u s ss a lu here (sym (changed-cons t s ss true x) ∙ e ∙ changed-cons u s ss false y))
one-more t u s ss a false true p x y here lt lu e = absurd (later u t s ss a lt here (sym (changed-cons u s ss true y) ∙ sym e ∙ changed-cons t s ss false x))

places-same : (t u : Tables) → t.protocol ≡ u.protocol → AreWhole t → AreWhole u → (places : List CellPlace) (a n : ℕ) →
    map place_number places ≡ range_with_len a n → changed t places ≡ changed u places → AllByRecursion (λ s. cell_at t s ≡ cell_at u s) places
places-same t u p h k [] a n e same = tt
places-same t u p h k (s ∷ ss) a zero e same = absurd (cc)
places-same t u p h k (s ∷ ss) a (suc n) e same =
    let here : place_number s ≡ a = cc in
    let rest : map place_number ss ≡ range_with_len (a + 1) n = cc in
    let both =
    one-more t u s ss a (is_changed t s) (is_changed u s) p refl refl here (listed-from t h ss (a + 1) n rest) (listed-from u k ss (a + 1) n rest) same in
    (both.0, places-same t u p h k ss (a + 1) n rest both.1)

at-index : {X : Type 0} (P : X → Type 0) (xs : List X) (i : ℕ) (d : X) → i < length xs → AllByRecursion P xs → P (get_or xs i d)
at-index P [] i d low h = absurd (omega (arith, low))
at-index P (x ∷ xs) zero d low h = h.0
at-index P (x ∷ xs) (suc i) d low h = at-index P xs i d (omega (arith, low)) h.1

cells-agree : (t u : Tables) → t.protocol ≡ u.protocol → AreWhole t → AreWhole u → changed_cells t ≡ changed_cells u →
    (s : CellPlace) → cell_at t s ≡ cell_at u s
cells-agree t u p h k e s =
    let own = at-own s in
    let n : length all_places ≡ 184 = refl in
    subst (λ q. cell_at t q ≡ cell_at u q) own.0
    (at-index (λ q. cell_at t q ≡ cell_at u q) all_places (place_number s) some_place (omega (arith, n, own.1))
    (places-same t u p h k all_places 0 184 numbers e))

-- ---- recordings

kept : ℕ → Extent → Tables → List ℕ → List Entry → List ℕ → RecordingView
kept seats shape tables opening entries owners =
    record { seats = seats; shape = shape; tables = tables; opening = opening; entries = entries; owners = owners }

parts-same : (r s : RecordingView) → r.seats ≡ s.seats → r.shape ≡ s.shape → r.tables ≡ s.tables → r.opening ≡ s.opening → r.entries ≡ s.entries →
    r.owners ≡ s.owners → r ≡ s
unfolding kept
parts-same r s n a b c d o =
    ap (λ x. kept x r.shape r.tables r.opening r.entries r.owners) n
    ∙ ap (λ x. kept s.seats x r.tables r.opening r.entries r.owners) a
    ∙ ap (λ x. kept s.seats s.shape x r.opening r.entries r.owners) b
    ∙ ap (λ x. kept s.seats s.shape s.tables x r.entries r.owners) c
    ∙ ap (λ x. kept s.seats s.shape s.tables s.opening x r.owners) d
    ∙ ap (λ x. kept s.seats s.shape s.tables s.opening s.entries x) o

behind_one : {X : Type 0} → List X → List X
behind_one [] = []
behind_one (x ∷ xs) = xs

rest_of : RecordingView → List (List (List ℕ))
rest_of r = map cell_words (changed_cells r.tables) ++ (entries_words (length r.entries) ∷ map told_words (told r.owners r.entries) ++ end_words ∷ [])

-- what the lines of two recordings in one version tell is the same
record SameHeads (r s : RecordingView) : Type 0 where
  protocol : r.tables.protocol ≡ s.tables.protocol
  seats : r.seats ≡ s.seats
  shape : shape_words r.shape ≡ shape_words s.shape
  opening : opening_words r.opening ≡ opening_words s.opening
  count : cells_words (length (changed_cells r.tables)) ≡ cells_words (length (changed_cells s.tables))
  rest : rest_of r ≡ rest_of s

heads-same : (v : Version) (r s : RecordingView) → IsRecordable r → HasTextIn v r → IsRecordable s → HasTextIn v s → lines v r ≡ lines v s → SameHeads r s
unfolding rest_of behind_one
heads-same One r s h t k u all = record {
  protocol = t.told.0 ∙ sym u.told.0;
  seats = t.told.1 ∙ sym u.told.1;
  shape = ap (λ l. get_or l 1 []) all;
  opening = ap (λ l. get_or l 2 []) all;
  count = ap (λ l. get_or l 3 []) all;
  rest = ap (λ l. behind_one (behind_one (behind_one (behind_one l)))) all;
}
heads-same Two r s h t k u all = record {
  protocol = protocol-same r.tables.protocol s.tables.protocol (ap (λ l. get_or l 1 []) all);
  seats =
      count-same (codes "seats") r.seats s.seats (omega (arith, h.owners.few)) (omega (arith, k.owners.few)) (ap (λ l. get_or l 3 []) all);
  shape = ap (λ l. get_or l 2 []) all;
  opening = ap (λ l. get_or l 4 []) all;
  count = ap (λ l. get_or l 5 []) all;
  rest = ap (λ l. behind_one (behind_one (behind_one (behind_one (behind_one (behind_one l)))))) all;
}

same-parts : (r s : RecordingView) → IsRecordable r → IsRecordable s → SameHeads r s → r ≡ s
unfolding rest_of behind_one
same-parts r s h k same =
    let n =
    count-same (codes "cells") (length (changed_cells r.tables)) (length (changed_cells s.tables)) (omega (arith, few-listed r.tables h.tables))
    (omega (arith, few-listed s.tables k.tables)) same.count in
    let cells = cells-same (changed_cells r.tables) (changed_cells s.tables) _ _ n same.rest in
    let entry_count : entries_words (length r.entries) ≡ entries_words (length s.entries) = ap (λ l. get_or l 0 []) cells.1 in
    let m = count-same (codes "entries") (length r.entries) (length s.entries) h.few k.few entry_count in
    let ts : List Told = told r.owners r.entries in
    let us : List Told = told s.owners s.entries in
    let tolds : map told_words ts ++ end_words ∷ [] ≡ map told_words us ++ end_words ∷ [] = ap behind_one cells.1 in
    let many : length ts ≡ length us = told-length r.owners r.entries ∙ m ∙ sym (told-length s.owners s.entries) in
    let fits : AllByRecursion (FitsTold r.seats) ts = told-fit r.seats r.owners r.entries h.owners (recursion_from_All FitsEntry r.entries h.fits) in
    let others : AllByRecursion (FitsTold r.seats) us =
    subst (λ x. AllByRecursion (FitsTold x) us) (sym same.seats)
    (told-fit s.seats s.owners s.entries k.owners (recursion_from_All FitsEntry s.entries k.fits)) in
    let all : ts ≡ us = tolds-same r.seats ts us (end_words ∷ []) (end_words ∷ []) h.owners.few many fits others tolds in
    parts-same r s same.seats
    (shape-same r.shape s.shape h.shape k.shape same.shape)
    (tables-same r.tables s.tables same.protocol h.tables k.tables (cells-agree r.tables s.tables same.protocol h.tables k.tables cells.0))
    (values-same r.opening s.opening (recursion_from_All _ r.opening h.opening.small) (recursion_from_All _ s.opening k.opening.small)
    (ap behind_one same.opening))
    (sym (entries-told r.owners r.entries) ∙ ap entries_of all ∙ entries-told s.owners s.entries)
    (sym (owners-told r.seats r.owners r.entries h.owners) ∙ ap owners_of all ∙ owners-told s.seats s.owners s.entries k.owners)

-- a text is the text of one recording, in one version
pub recording-one : (v w : Version) (r s : RecordingView) → IsRecordable r → HasTextIn v r → IsRecordable s → HasTextIn w s → text v r ≡ text w s →
    (v ≡ w) × (r ≡ s)
recording-one v w r s h t k u e =
    let all : lines v r ≡ lines w s = lines-same (lines v r) (lines w s) (recorded-lines v r h t) (recorded-lines w s k u) e in
    let version : v ≡ w = version-same v w (ap (λ l. get_or l 0 []) all) in
    let there : HasTextIn v s = subst (λ x. HasTextIn x s) (sym version) u in
    (version, same-parts r s h k (heads-same v r s h t k there (all ∙ ap (λ x. lines x s) (sym version))))

-- and no text is the beginning of another
pub recording-alone : (v w : Version) (r s : RecordingView) (more : List ℕ) → IsRecordable r → HasTextIn v r → IsRecordable s → HasTextIn w s →
    text v r ≡ text w s ++ more → (v ≡ w) × (r ≡ s) × (more ≡ [])
recording-alone v w r s more h t k u e =
    let none : more ≡ [] = whole-alone (text v r) (text w s) more (text-whole v r h t) (text-whole w s k u) e in
    let one = recording-one v w r s h t k u (e ∙ ap (λ l. text w s ++ l) none ∙ append-nil (text w s)) in
    (one.0, one.1, none)

-- what was read of a recording's text is that recording
pub read-back : (before after : Option (List ℕ)) (v w : Version) (r s : RecordingView) → IsRecordable r → HasTextIn v r → IsRecordable s → HasTextIn w s →
    before ≡ Some (text v r) → Consumes before after (text w s) → s ≡ r
read-back before after v w r s h t k u is read = read-text after (subst (λ b. Consumes b after (text w s)) is read)
  where
    read-text : (after : Option (List ℕ)) → Consumes (Some (text v r)) after (text w s) → s ≡ r
    read-text None read = absurd read
    read-text (Some left) read = sym (recording-alone v w r s left h t k u read).1

-- and it is refused only for want of memory or by a device
pub refused-outside : (before end : Option (List ℕ)) (line : ℕ) (kind : ReadKind) (v : Version) (r : RecordingView) → IsRecordable r → HasTextIn v r →
    before ≡ Some (text v r) → IsRefused before end 0 Header line kind → IsOutside kind
refused-outside before end line kind v r h t is refused =
    whole-refused (text v r) (Some []) end line kind (text-whole v r h t) (subst (λ b. IsRefused b end 0 Header line kind) is refused)
