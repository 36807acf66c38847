-- A recording that is read grows line by line.
use Rattle.std.proofs.Common.{◌≡◌, ◌≢◌, ◌≤◌, ◌+◌, ◌-◌, ℕ, zero, suc, List, [], ◌∷◌, ◌++◌, length, map, refl, ap, sym, subst, ◌∙◌, arith}
use Rattle.std.proofs.Common.{append_assoc}
use Rattle.std.proofs.lemmas.Grind.{common_steps}
use Rattle.std.specs.List.{All}
use Rattle.std.proofs.lemmas.List.{length_push, map-append}
use Rattle.std.proofs.lemmas.List.Elements.{All-push}
use Rattle.base.specs.Extent.{Extent, IsWithinLimits}
use Rattle.base.specs.declared.controller.protocol.Protocol.{Protocol}
use Rattle.record_lines.specs.declared.due.TextHead.{TextHead}
use Rattle.record_lines.specs.declared.told.Told.{Told}
use Rattle.record_lines.specs.declared.version.Version.{Version}
use Rattle.record_lines.specs.declared.version.Version.TheVariants.{One, Two}
use Rattle.record_lines.specs.Versions.{form, shape_leads_in, protocol_lines, protocol_words, seats_lines, CanTell, IsShapeIn}
use Rattle.record.proofs.Owners.{more-owners, told-more}
use Rattle.tables.specs.CellPlaces.{place_number}
use Rattle.tables.specs.Tables.{Tables, baseline_of}
use Rattle.tables.specs.declared.cell_places.CellPlace.{CellPlace}
use Rattle.tables.proofs.CellPlaces.{at-own}
use Rattle.record_lines.specs.declared.cells.Cell.{Cell}
use Rattle.record_lines.specs.declared.due.Due.{Due}
use Rattle.record_lines.specs.declared.due.Due.TheVariants.{ProtocolLine, ShapeLine, SeatsLine, OpeningLine, CellCount, CellLine, EntryLine, EndLine}
use Rattle.record_lines.specs.declared.entry.Entry.{Entry}
use Rattle.record_lines.specs.Cells.{cell_at, cell_words, place_of}
use Rattle.record_lines.specs.Grammar.{cells_due, entries_due, AreValues, FitsEntry, FitsTold, MayBeListed, IsOwner, Leads}
use Rattle.record.specs.View.{owner_list, AreOwners}
use Rattle.record.specs.Recordable.{AreWhole}
use Rattle.record.specs.Text.{head_lines, changed_cells, told}
use Rattle.record_lines.specs.Text.{header_words, shape_words, cells_words, entries_words, told_words}
use Rattle.record.specs.inner.Drafts.{recorded, with_told, Kept, lines_to_cells, lines_to_entries, lines_before, IsBaselineFrom}
use Rattle.record.specs.inner.Drafts.{IsHeadedAs, IsReadTo, IsTaken}
use Rattle.record.proofs.Listed.{listed-all, listed-more, plain-more}
use Rattle.record.proofs.Standing.{baseline-whole}

-- ---- what is due behind a count, and behind one of so many

cells-before : (f : TextHead) (n from : ℕ) (r : Kept) → lines_before (cells_due f n from) r ≡ lines_to_cells r (length (changed_cells r.tables) + n)
cells-before f zero from r = ap (lines_to_cells r) (omega arith)
cells-before f (suc n) from r = refl

entries-before : (f : TextHead) (n : ℕ) (r : Kept) → lines_before (entries_due f n) r ≡ lines_to_entries r (length r.entries + n)
entries-before f zero r = ap (lines_to_entries r) (omega arith)
entries-before f (suc n) r = refl

-- what is told in the head, and a shape of its version
abbrev IsHead : TextHead → Kept → Type 0
IsHead f r = IsHeadedAs f r × IsShapeIn r.version r.shape

cells-read : (f : TextHead) (n from : ℕ) (r : Kept) → IsWithinLimits r.shape → AreWhole r.tables → AreValues r.shape r.opening → r.entries ≡ [] → from ≤ 184 →
    IsBaselineFrom from r.tables → All FitsEntry r.entries → AreOwners r.seats r.owners r.entries → IsHead f r → IsReadTo (cells_due f n from) r
cells-read f zero from r shape tables opening entries low plain fits owners head =
    record { shape = shape; tables = tables; fits = fits; opening = opening; cells = tt; entries = entries; owners = owners; head = head }
cells-read f (suc n) from r shape tables opening entries low plain fits owners head = record {
  shape = shape;
  tables = tables;
  fits = fits;
  opening = opening;
  cells = (omega arith, low, plain);
  entries = entries;
  owners = owners;
  head = head;
}

entries-read : (f : TextHead) (n : ℕ) (r : Kept) → IsWithinLimits r.shape → AreWhole r.tables → AreValues r.shape r.opening → length r.entries + n ≤ 1000000 →
    All FitsEntry r.entries → AreOwners r.seats r.owners r.entries → IsHead f r → IsReadTo (entries_due f n) r
entries-read f zero r shape tables opening few fits owners head =
    record { shape = shape; tables = tables; fits = fits; opening = opening; cells = tt; entries = omega (arith, few); owners = owners; head = head }
entries-read f (suc n) r shape tables opening few fits owners head = record {
  shape = shape;
  tables = tables;
  fits = fits;
  opening = opening;
  cells = tt;
  entries = (omega arith, few);
  owners = owners;
  head = head;
}

baseline-changed : (p : Protocol) → changed_cells (baseline_of p) ≡ []
baseline-changed p = sym (listed-all (baseline_of p) 0 (omega arith) (λ s high. refl))

-- ---- lines that leave the recording as it is

pub at-cell_count : (f : TextHead) (r : Kept) (line : List (List ℕ)) (next : Due) → IsReadTo (CellCount f) r → Leads (CellCount f) line next →
    IsTaken (CellCount f) r line next r
at-cell_count f r line next h leads =
    let none : changed_cells r.tables ≡ [] = ap changed_cells h.cells ∙ baseline-changed r.tables.protocol in
    let n : length (changed_cells r.tables) + leads.0 ≡ leads.0 = omega (arith, ap length none) in
    let plain : IsBaselineFrom 0 r.tables = λ s high. ap (λ (t : Tables). cell_at t s) h.cells in
    let head : List (List (List ℕ)) = head_lines r.version (recorded r) in
    record {
      leads = leads;
      before =
          ap (λ d. lines_before d r) leads.3 ∙ cells-before f leads.0 0 r ∙ ap (lines_to_cells r) n
          ∙ ap (λ cs. head ++ cells_words leads.0 ∷ map cell_words cs) none ∙ ap (λ l. head ++ l ∷ []) (sym leads.2);
      read =
          subst (λ d. IsReadTo d r) (sym leads.3)
          (cells-read f leads.0 0 r h.shape h.tables h.opening h.entries (omega arith) plain h.fits h.owners h.head);
    }

-- ---- the last line

pub end-taken : (f : TextHead) (r : Kept) (line : List (List ℕ)) (next : Due) → IsReadTo (EndLine f) r → Leads (EndLine f) line next →
    IsTaken (EndLine f) r line next r
end-taken f r line next h leads =
    subst (λ d. IsTaken (EndLine f) r line d r) (sym leads.1) (grind (arith, common_steps, h, leads))

-- ---- one cell or one entry more

-- a recording with these tables
abbrev pub with_tables : Kept → Tables → Kept
with_tables r tables = record {
  version = r.version;
  seats = r.seats;
  shape = r.shape;
  tables = tables;
  opening = r.opening;
  entries = r.entries;
  owners = r.owners;
}

-- the lines of the head, if the protocol were this one
abbrev head_of : Kept → Protocol → List (List (List ℕ))
head_of r p = head_lines r.version (recorded (with_tables r (record { protocol = p; cache = r.tables.cache; directory = r.tables.directory })))

pub cell-taken : (f : TextHead) (r : Kept) (tables : Tables) (left from : ℕ) (cell : Cell) (line : List (List ℕ)) (next : Due) →
    IsReadTo (CellLine f left from) r → MayBeListed f.protocol from cell → line ≡ cell_words cell → AreWhole tables → tables.protocol ≡ r.tables.protocol →
    cell_at tables (place_of cell) ≡ cell → ((place : CellPlace) → place ≢ place_of cell → cell_at tables place ≡ cell_at r.tables place) →
    next ≡ cells_due f (left - 1) (place_number (place_of cell) + 1) → IsTaken (CellLine f left from) r line next (with_tables r tables)
cell-taken f r tables left from cell line next h listed spelled whole p here others due =
    let s : Kept = with_tables r tables in
    let own = at-own (place_of cell) in
    let behind : ℕ = place_number (place_of cell) + 1 in
    let low : behind ≤ 184 = omega (arith, own.1) in
    let first : MayBeListed r.tables.protocol from cell = subst (λ q. MayBeListed q from cell) h.head.0.1 listed in
    let plain = plain-more r.tables tables from cell p h.cells.2 listed.in_order others in
    let more : changed_cells tables ≡ changed_cells r.tables ++ cell ∷ [] =
    sym (listed-all tables behind low plain) ∙ listed-more r.tables tables from cell p h.cells.2 first here others
    ∙ ap (λ cs. cs ++ cell ∷ []) (listed-all r.tables from h.cells.1 h.cells.2) in
    let n : length (changed_cells tables) + (left - 1) ≡ length (changed_cells r.tables) + left =
    omega (arith, ap length more, length_push (changed_cells r.tables) cell, h.cells.0) in
    let count : ℕ = length (changed_cells r.tables) + left in
    let head : List (List (List ℕ)) = head_lines r.version (recorded r) in
    record {
      leads = (cell, listed, spelled, due);
      before =
          ap (λ d. lines_before d s) due ∙ cells-before f (left - 1) behind s ∙ ap (lines_to_cells s) n
          ∙ ap (λ q. head_of r q ++ cells_words count ∷ map cell_words (changed_cells tables)) p
          ∙ ap (λ cs. head ++ cells_words count ∷ cs)
          (ap (map cell_words) more ∙ map-append cell_words (changed_cells r.tables) (cell ∷ [])
          ∙ ap (λ l. map cell_words (changed_cells r.tables) ++ l ∷ []) (sym spelled))
          ∙ sym (append_assoc head (cells_words count ∷ map cell_words (changed_cells r.tables)) (line ∷ []));
      read =
          subst (λ d. IsReadTo d s) (sym due)
          (cells-read f (left - 1) behind s h.shape whole h.opening h.entries low plain h.fits h.owners
          ((h.head.0.0, h.head.0.1 ∙ sym p, h.head.0.2, subst (λ q. CanTell r.version q r.seats) (sym p) h.head.0.3), h.head.1));
    }

entry-more : (f : TextHead) (r : Kept) (left : ℕ) (t : Told) (line : List (List ℕ)) (next : Due) → IsReadTo (EntryLine f left) r → FitsTold f.seats t →
    line ≡ told_words t → next ≡ entries_due f (left - 1) →
    IsTaken (EntryLine f left) r line next (with_told r (r.entries ++ t.entry ∷ []) (r.owners ++ owner_list t.owner))
entry-more f r left t line next h fits spelled due =
    let s : Kept = with_told r (r.entries ++ t.entry ∷ []) (r.owners ++ owner_list t.owner) in
    let n : length s.entries + (left - 1) ≡ length r.entries + left = omega (arith, length_push r.entries t.entry, h.entries.0) in
    let count : ℕ = length r.entries + left in
    let cells = lines_to_cells r (length (changed_cells r.tables)) in
    let owner : IsOwner r.seats t.owner = subst (λ k. IsOwner k t.owner) h.head.0.2 fits.0 in
    record {
      leads = (t, fits, spelled, due);
      before =
          ap (λ d. lines_before d s) due ∙ entries-before f (left - 1) s ∙ ap (lines_to_entries s) n
          ∙ ap (λ ts. cells ++ entries_words count ∷ map told_words ts) (told-more r.seats r.owners r.entries t.owner t.entry h.owners owner)
          ∙ ap (λ es. cells ++ entries_words count ∷ es)
          (map-append told_words (told r.owners r.entries) (t ∷ []) ∙ ap (λ l. map told_words (told r.owners r.entries) ++ l ∷ []) (sym spelled))
          ∙ sym (append_assoc cells (entries_words count ∷ map told_words (told r.owners r.entries)) (line ∷ []));
      read =
          subst (λ d. IsReadTo d s) (sym due)
          (entries-read f (left - 1) s h.shape h.tables h.opening (omega (arith, n, h.entries.1)) (All-push FitsEntry r.entries t.entry h.fits fits.1)
          (more-owners r.seats r.owners r.entries t.owner t.entry h.owners owner) h.head);
    }

pub entry-taken : (f : TextHead) (r : Kept) (entries : List Entry) (owners : List ℕ) (left : ℕ) (t : Told) (line : List (List ℕ)) (next : Due) →
    IsReadTo (EntryLine f left) r → FitsTold f.seats t → line ≡ told_words t → entries ≡ r.entries ++ t.entry ∷ [] →
    owners ≡ r.owners ++ owner_list t.owner → next ≡ entries_due f (left - 1) →
    IsTaken (EntryLine f left) r line next (with_told r entries owners)
entry-taken f r entries owners left t line next h fits spelled is same due =
    subst (λ es. IsTaken (EntryLine f left) r line next (with_told r es owners)) (sym is)
    (subst (λ ks. IsTaken (EntryLine f left) r line next (with_told r (r.entries ++ t.entry ∷ []) ks)) (sym same)
    (entry-more f r left t line next h fits spelled due))

-- ---- the lines of the head

abbrev pub with_shape : Kept → Extent → Kept
with_shape r shape = record {
  version = r.version;
  seats = r.seats;
  shape = shape;
  tables = r.tables;
  opening = r.opening;
  entries = r.entries;
  owners = r.owners;
}

can-second : (v : Version) (p : Protocol) (n : ℕ) → v ≡ Two → CanTell v p n
can-second v p n is = subst (λ x. CanTell x p n) (sym is) tt

pub protocol-taken : (r : Kept) (tables : Tables) (line : List (List ℕ)) (p : Protocol) (next : Due) → IsReadTo ProtocolLine r → line ≡ protocol_words p →
    tables ≡ baseline_of p → next ≡ ShapeLine (form Two p 0) → IsTaken ProtocolLine r line next (with_tables r tables)
protocol-taken r tables line p next h spelled own due =
    subst (λ t. IsTaken ProtocolLine r line next (with_tables r t)) (sym own)
    (subst (λ d. IsTaken ProtocolLine r line d (with_tables r (baseline_of p))) (sym due) (record {
      leads = (p, spelled, refl);
      before =
          ap (λ v. header_words v ∷ protocol_lines v p) h.head.0 ∙ ap (λ l. header_words Two ∷ l ∷ []) (sym spelled);
      read = record {
        shape = h.shape;
        tables = baseline-whole p;
        fits = h.fits;
        opening = tt;
        cells = refl;
        entries = h.entries;
        owners = h.owners;
        head = (sym h.head.0, refl, sym h.head.1, can-second r.version p r.seats h.head.0);
      };
    }))

pub shape-taken : (f : TextHead) (r : Kept) (line : List (List ℕ)) (shape : Extent) (next : Due) → IsReadTo (ShapeLine f) r → IsShapeIn f.version shape →
    line ≡ shape_words shape → next ≡ shape_leads_in f.version f shape → IsTaken (ShapeLine f) r line next (with_shape r shape)
shape-taken f r line shape next h within spelled due =
    subst (λ d. IsTaken (ShapeLine f) r line d (with_shape r shape)) (sym due) (by-version f.version refl)
  where
    here : IsShapeIn r.version shape
    here = subst (λ v. IsShapeIn v shape) h.head.0 within

    by-version : (v : Version) → f.version ≡ v → IsTaken (ShapeLine f) r line (shape_leads_in f.version f shape) (with_shape r shape)
    by-version One is =
        let first : r.version ≡ One = sym h.head.0 ∙ is in
        let lead : shape_leads_in f.version f shape ≡ OpeningLine f shape = ap (λ v. shape_leads_in v f shape) is in
        subst (λ d. IsTaken (ShapeLine f) r line d (with_shape r shape)) (sym lead) (record {
          leads = (shape, within, spelled, sym lead);
          before =
              ap (λ ls. header_words r.version ∷ protocol_lines r.version r.tables.protocol ++ (shape_words shape ∷ ls)) (ap (λ v. seats_lines v r.seats) first)
              ∙ ap (λ l. header_words r.version ∷ protocol_lines r.version r.tables.protocol ++ (l ∷ [])) (sym spelled);
          read = record {
            shape = within.within;
            tables = h.tables;
            fits = h.fits;
            opening = refl;
            cells = h.cells;
            entries = h.entries;
            owners = h.owners;
            head = (h.head, here);
          };
        })
    by-version Two is =
        let second : r.version ≡ Two = sym h.head.0 ∙ is in
        let lead : shape_leads_in f.version f shape ≡ SeatsLine f shape = ap (λ v. shape_leads_in v f shape) is in
        subst (λ d. IsTaken (ShapeLine f) r line d (with_shape r shape)) (sym lead) (record {
          leads = (shape, within, spelled, sym lead);
          before = ap (λ l. header_words r.version ∷ protocol_lines r.version r.tables.protocol ++ (l ∷ [])) (sym spelled);
          read = record {
            shape = within.within;
            tables = h.tables;
            fits = h.fits;
            opening = refl;
            cells = h.cells;
            entries = h.entries;
            owners = h.owners;
            head = (h.head, second, here);
          };
        })
