-- Places whose cells fit, each in a whole table.
use Rattle.std.proofs.Common.{◌≡◌, ◌≢◌, ◌⊎◌, inl, inr, ◌<◌, ◌+◌, ℕ, zero, suc, Bool, true, false, cond, leb, Some, List, [], ◌∷◌, length, get_or, slice_get}
use Rattle.std.proofs.Common.{refl, ap, sym, subst, ◌∙◌, arith, rules, below_more}
use Rattle.std.proofs.lemmas.Option.{get_or_from_slice_get}
use Rattle.std.proofs.lemmas.Bool.Decides.{nat_tests}
use Rattle.cache_table.specs.Keeping as cache_keeping
use Rattle.cache_table.specs.Table as cache_table
use Rattle.cache_table.proofs.BaselineCells.{cell-baseline as cache-baseline}
use Rattle.cache_table.proofs.Keeping.{table-with as cache-with}
use Rattle.cache_table.specs.Table.{CacheEntry}
use Rattle.base.specs.declared.controller.protocol.Protocol.{Protocol}
use Rattle.base.specs.declared.controller.protocol.Protocol.TheVariants.{Msi, MsiE}
use Rattle.base.specs.Entries.{HasFewActions}
use Rattle.base.specs.declared.controller.entry.CellEntry as table_cell
use Rattle.base.specs.declared.controller.entry.CellEntry.TheVariants as table_entry
use Rattle.cache_table.specs.declared.state.CacheState.{CacheState}
use Rattle.cache_table.specs.declared.event.CacheEvent.{CacheEvent}
use Rattle.directory_table.specs.Keeping as directory_keeping
use Rattle.directory_table.specs.Table as directory_table
use Rattle.directory_table.proofs.BaselineCells.{cell-baseline as directory-baseline}
use Rattle.directory_table.proofs.Keeping.{table-with as directory-with}
use Rattle.directory_table.specs.Table.{DirectoryEntry}
use Rattle.directory_table.specs.declared.state.DirectoryState.{DirectoryState}
use Rattle.directory_table.specs.declared.event.DirectoryEvent.{DirectoryEvent}
use Rattle.tables.specs.CellPlaces.{all_places, place_number}
use Rattle.tables.specs.Tables.{Tables, baseline_of}
use Rattle.tables.specs.declared.cell_places.CellPlace.{CellPlace}
use Rattle.tables.specs.declared.cell_places.CellPlace.TheVariants as place
use Rattle.tables.proofs.CellPlaces.{some_place, place_at, at-own}
use Rattle.record_lines.specs.declared.cells.Cell.{Cell}
use Rattle.record_lines.specs.declared.cells.Cell.TheVariants as cell
use Rattle.record_lines.specs.Cells.{cell_at, is_known, place_of, FitsCell}
use Rattle.record_lines.specs.Cells.{IsInWhole}
use Rattle.record.specs.Recordable.{AreWhole}
use Rattle.std.proofs.lemmas.Bool.{cases_eq}

abbrev Stands : Tables → CellPlace → Type 0
Stands t s = FitsCell (cell_at t s) × IsInWhole t s

-- the cells at the first places stand so
abbrev pub StandBefore : ℕ → Tables → Type 0
StandBefore n t = (k : ℕ) → k < n → Stands t (place_at k)

pub stand-more : (t : Tables) (n : ℕ) (s : CellPlace) → slice_get all_places n ≡ Some s → FitsCell (cell_at t s) → IsInWhole t s →
    StandBefore n t → StandBefore (n + 1) t
stand-more t n s is fits whole before =
    let same : s ≡ place_at n = sym (get_or_from_slice_get all_places n s some_place is) in
    below_more (λ k. Stands t (place_at k)) n before (subst (Stands t) same (fits, whole))

pub all-stand : (t : Tables) → StandBefore 184 t → AreWhole t
all-stand t h = record {
  cache = (h 0 (omega arith)).1;
  directory = (h 156 (omega arith)).1;
  fits = λ s. let own = at-own s in subst (λ p. FitsCell (cell_at t p)) own.0 (h (place_number s) own.1).0;
}

-- ---- with another cell in one place

fits-at : (t u : Tables) (c : Cell) (s : CellPlace) → cell_at u (place_of c) ≡ c → (s ≢ place_of c → cell_at u s ≡ cell_at t s) → FitsCell (cell_at t s) →
    FitsCell c → (place_number s ≡ place_number (place_of c)) ⊎ (place_number s ≢ place_number (place_of c)) → FitsCell (cell_at u s)
fits-at t u c s here other old new (inl e) =
    let same : place_of c ≡ s = sym (at-own (place_of c)).0 ∙ ap place_at (sym e) ∙ (at-own s).0 in
    subst (λ p. FitsCell (cell_at u p)) same (subst FitsCell (sym here) new)
fits-at t u c s here other old new (inr ne) = subst FitsCell (sym (other (λ e. ne (ap place_number e)))) old

pub whole-more : (t u : Tables) (c : Cell) → cell_at u (place_of c) ≡ c → ((s : CellPlace) → s ≢ place_of c → cell_at u s ≡ cell_at t s) →
    cache_keeping.IsCacheTable u.protocol u.cache → directory_keeping.IsDirectoryTable u.protocol u.directory → AreWhole t → FitsCell c → AreWhole u
whole-more t u c here others cache directory whole fits = record {
  cache = cache;
  directory = directory;
  fits = λ s. fits-at t u c s here (others s) (whole.fits s) fits (cases_eq (place_number s) (place_number (place_of c)));
}

pub cache-here : (t : Tables) (c : Cell) (s : CacheState) (e : CacheEvent) (x : CacheEntry) → c ≡ cell.Cache s e x → cache_table.cell t.cache s e ≡ x →
    cell_at t (place_of c) ≡ c
cache-here t c s e x is here = subst (λ d. cell_at t (place_of d) ≡ d) (sym is) (ap (cell.Cache s e) here)

pub directory-here : (t : Tables) (c : Cell) (s : DirectoryState) (e : DirectoryEvent) (x : DirectoryEntry) → c ≡ cell.Directory s e x →
    directory_table.cell t.directory s e ≡ x → cell_at t (place_of c) ≡ c
directory-here t c s e x is here = subst (λ d. cell_at t (place_of d) ≡ d) (sym is) (ap (cell.Directory s e) here)

pub cache-more : (table new : cache_table.CacheTableView) (s : CacheState) (e : CacheEvent) (x : CacheEntry) → new ≡ cache_table.with_entry table s e x →
    cache_keeping.IsCacheTable table.protocol table.cells → cache_keeping.IsCacheTable new.protocol new.cells
cache-more table new s e x is h = subst (λ (t : cache_table.CacheTableView). cache_keeping.IsCacheTable t.protocol t.cells) (sym is) (cache-with table s e x h)

pub directory-more : (table new : directory_table.DirectoryTableView) (s : DirectoryState) (e : DirectoryEvent) (x : DirectoryEntry) →
    new ≡ directory_table.with_entry table s e x → directory_keeping.IsDirectoryTable table.protocol table.cells → directory_keeping.IsDirectoryTable new.protocol new.cells
directory-more table new s e x is h =
    subst (λ (t : directory_table.DirectoryTableView). directory_keeping.IsDirectoryTable t.protocol t.cells) (sym is) (directory-with table s e x h)

-- ---- the protocol's own tables

few_of : {S A : Type 0} → table_cell.CellEntry S A → Bool
few_of (table_entry.Act next actions) = leb (length actions) 8
few_of other = true

few : Cell → Bool
few (cell.Cache s e x) = few_of x
few (cell.Directory s e x) = few_of x

few_of-fits : {S A : Type 0} (x : table_cell.CellEntry S A) → few_of x ≡ true → HasFewActions x
unfolding few_of
few_of-fits table_entry.Blank h = tt
few_of-fits table_entry.Stall h = tt
few_of-fits (table_entry.Act next actions) h = grind (arith, nat_tests, h)

few-fits : (c : Cell) → few c ≡ true → FitsCell c
unfolding few
few-fits (cell.Cache s e x) h = few_of-fits x h
few-fits (cell.Directory s e x) h = few_of-fits x h

all_few : Protocol → List CellPlace → Bool
all_few p [] = true
all_few p (s ∷ ss) = cond (few (cell_at (baseline_of p) s)) (all_few p ss) false

first : (b c : Bool) → cond b c false ≡ true → b ≡ true
first true c h = refl
first false c h = cc

second : (b c : Bool) → cond b c false ≡ true → c ≡ true
second true c h = h
second false c h = cc

few-at : (p : Protocol) (ss : List CellPlace) (i : ℕ) (d : CellPlace) → i < length ss → all_few p ss ≡ true →
    few (cell_at (baseline_of p) (get_or ss i d)) ≡ true
unfolding all_few
few-at p [] i d low h = absurd (omega (arith, low))
few-at p (s ∷ ss) zero d low h = first (few (cell_at (baseline_of p) s)) (all_few p ss) h
few-at p (s ∷ ss) (suc i) d low h = few-at p ss i d (omega (arith, low)) (second (few (cell_at (baseline_of p) s)) (all_few p ss) h)

whole-of : (p : Protocol) → all_few p all_places ≡ true → AreWhole (baseline_of p)
whole-of p all =
    let count : length all_places ≡ 184 = refl in
    record {
      cache = record { whole = record { rows_are = refl; columns_are = search rules }; keeps = λ s e. inl (cache-baseline p s e) };
      directory = record { whole = record { rows_are = refl; columns_are = search rules }; keeps = λ s e. inl (directory-baseline p s e) };
      fits =
          λ s. let own =
          at-own s in subst (λ q. FitsCell (cell_at (baseline_of p) q)) own.0
          (few-fits _ (few-at p all_places (place_number s) some_place (omega (arith, count, own.1)) all));
    }

pub baseline-whole : (p : Protocol) → AreWhole (baseline_of p)
unfolding all_few few few_of
baseline-whole Msi = whole-of Msi refl
baseline-whole MsiE = whole-of MsiE refl

-- ---- tables that keep to their protocol

-- the cell at this place is the protocol's own, or the protocol has all that it names
abbrev pub IsKnownAt : Tables → CellPlace → Type 0
IsKnownAt t s = (cell_at t s ≡ cell_at (baseline_of t.protocol) s) ⊎ (is_known t.protocol (cell_at t s) ≡ true)

line-at : (t : Tables) (s : CacheState) (e : CacheEvent) → cache_keeping.IsKeptAt t.protocol t.cache s e → IsKnownAt t (place.Cache s e)
line-at t s e (inl own) = inl (ap (cell.Cache s e) (own ∙ sym (cache-baseline t.protocol s e)))
line-at t s e (inr known) = inr known

home-at : (t : Tables) (s : DirectoryState) (e : DirectoryEvent) → directory_keeping.IsKeptAt t.protocol t.directory s e → IsKnownAt t (place.Directory s e)
home-at t s e (inl own) = inl (ap (cell.Directory s e) (own ∙ sym (directory-baseline t.protocol s e)))
home-at t s e (inr known) = inr known

pub known-at : (t : Tables) → AreWhole t → (s : CellPlace) → IsKnownAt t s
known-at t whole (place.Cache s e) = line-at t s e (whole.cache.keeps s e)
known-at t whole (place.Directory s e) = home-at t s e (whole.directory.keeps s e)
