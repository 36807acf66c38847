-- The places of all cells by their numbers.
use Rattle.std.proofs.Common.{◌≡◌, ℕ, ◌-◌, ◌*◌, ◌+◌, ◌/◌, ◌%◌, ◌<◌, ◌≤◌, Some, map, get_or, slice_get, refl, sym, ap, ◌∙◌, arith, cond, ltb}
use Rattle.std.specs.List.{range_with_len}
use Rattle.std.proofs.lemmas.List.{get_or-map}
use Rattle.std.proofs.lemmas.List.FromFn.{get_or-map-range_with_len, get_or-range_with_len}
use Rattle.std.proofs.lemmas.Option.{slice_get-get_or, get_or_from_slice_get}
use Rattle.std.proofs.lemmas.Bool.Decides.{nat_tests}
use Rattle.cache_table.specs.declared.state.CacheState.{CacheState}
use Rattle.cache_table.specs.declared.state.CacheState.TheVariants as cache_state
use Rattle.cache_table.specs.declared.event.CacheEvent.{CacheEvent}
use Rattle.cache_table.specs.declared.event.CacheEvent.TheVariants as cache_event
use Rattle.cache_table.specs.Table as cache_table
use Rattle.cache_table.specs.Baseline as cache_baseline
use Rattle.directory_table.specs.declared.state.DirectoryState.{DirectoryState}
use Rattle.directory_table.specs.declared.state.DirectoryState.TheVariants as directory_state
use Rattle.directory_table.specs.declared.event.DirectoryEvent.{DirectoryEvent}
use Rattle.directory_table.specs.declared.event.DirectoryEvent.TheVariants as directory_event
use Rattle.directory_table.specs.Table as directory_table
use Rattle.directory_table.specs.Baseline as directory_baseline
use Rattle.tables.specs.CellPlaces.{all_places, place_number}
use Rattle.tables.specs.declared.cell_places.CellPlace.{CellPlace}
use Rattle.tables.specs.declared.cell_places.CellPlace.TheVariants.{Cache, Directory}

-- the place that has this number, worked out
abbrev cache_place : ℕ → CellPlace
cache_place n = Cache (get_or cache_baseline.all_states (n / 13) cache_state.I) (get_or cache_baseline.all_events (n % 13) cache_event.Load)

abbrev directory_place : ℕ → CellPlace
directory_place n =
    Directory (get_or directory_baseline.all_states (n / 7) directory_state.I) (get_or directory_baseline.all_events (n % 7) directory_event.GetS)

abbrev place_of_number : ℕ → CellPlace
place_of_number n = cond (ltb n 156) (cache_place n) (directory_place (n - 156))

tabled : all_places ≡ map place_of_number (range_with_len 0 184)
tabled = refl

get-number : (n : ℕ) → n < 184 → slice_get all_places n ≡ Some (place_of_number n)
get-number n low =
    let d : CellPlace = place_of_number n in
    slice_get-get_or all_places n d low ∙ ap (λ (p : CellPlace). Some p)
    (ap (λ l. get_or l n d) tabled ∙ get_or-map-range_with_len place_of_number 0 184 n n d low (omega arith))

pub get-cache : (n : ℕ) → n < 156 → slice_get all_places n ≡ Some (cache_place n)
get-cache n low = get-number n (omega (arith, low)) ∙ grind (arith, nat_tests)

pub get-directory : (n : ℕ) → 156 ≤ n → n < 184 → slice_get all_places n ≡ Some (directory_place (n - 156))
get-directory n high low = get-number n low ∙ grind (arith, nat_tests)

cache-state-at : (s : CacheState) → (get_or cache_baseline.all_states (cache_table.state_number s) cache_state.I ≡ s) × (cache_table.state_number s < 12)
cache-state-at cache_state.I = (refl, omega arith)
cache-state-at cache_state.IsD = (refl, omega arith)
cache-state-at cache_state.ImAd = (refl, omega arith)
cache-state-at cache_state.ImA = (refl, omega arith)
cache-state-at cache_state.S = (refl, omega arith)
cache-state-at cache_state.SmAd = (refl, omega arith)
cache-state-at cache_state.SmA = (refl, omega arith)
cache-state-at cache_state.M = (refl, omega arith)
cache-state-at cache_state.MiA = (refl, omega arith)
cache-state-at cache_state.SiA = (refl, omega arith)
cache-state-at cache_state.IiA = (refl, omega arith)
cache-state-at cache_state.E = (refl, omega arith)

cache-event-at : (e : CacheEvent) → (get_or cache_baseline.all_events (cache_table.event_number e) cache_event.Load ≡ e) × (cache_table.event_number e < 13)
cache-event-at cache_event.Load = (refl, omega arith)
cache-event-at cache_event.Store = (refl, omega arith)
cache-event-at cache_event.Replacement = (refl, omega arith)
cache-event-at cache_event.FwdGetS = (refl, omega arith)
cache-event-at cache_event.FwdGetM = (refl, omega arith)
cache-event-at cache_event.Inv = (refl, omega arith)
cache-event-at cache_event.PutAck = (refl, omega arith)
cache-event-at cache_event.DataDirZero = (refl, omega arith)
cache-event-at cache_event.DataDirMore = (refl, omega arith)
cache-event-at cache_event.DataOwner = (refl, omega arith)
cache-event-at cache_event.InvAck = (refl, omega arith)
cache-event-at cache_event.LastInvAck = (refl, omega arith)
cache-event-at cache_event.DataDirExcl = (refl, omega arith)

directory-state-at : (s : DirectoryState) →
    (get_or directory_baseline.all_states (directory_table.state_number s) directory_state.I ≡ s) × (directory_table.state_number s < 4)
directory-state-at directory_state.I = (refl, omega arith)
directory-state-at directory_state.S = (refl, omega arith)
directory-state-at directory_state.M = (refl, omega arith)
directory-state-at directory_state.SD = (refl, omega arith)

directory-event-at : (e : DirectoryEvent) →
    (get_or directory_baseline.all_events (directory_table.event_number e) directory_event.GetS ≡ e) × (directory_table.event_number e < 7)
directory-event-at directory_event.GetS = (refl, omega arith)
directory-event-at directory_event.GetM = (refl, omega arith)
directory-event-at directory_event.PutSNotLast = (refl, omega arith)
directory-event-at directory_event.PutSLast = (refl, omega arith)
directory-event-at directory_event.PutMOwner = (refl, omega arith)
directory-event-at directory_event.PutMNonOwner = (refl, omega arith)
directory-event-at directory_event.Data = (refl, omega arith)

-- the place that has a place's number is that place
pub get-own : (p : CellPlace) → (slice_get all_places (place_number p) ≡ Some p) × (place_number p < 184)
get-own (Cache s e) =
    let state = cache-state-at s in
    let event = cache-event-at e in
    let n : ℕ = cache_table.state_number s * 13 + cache_table.event_number e in
    let low : n < 156 = omega (arith, state.1, event.1) in
    let row : n / 13 ≡ cache_table.state_number s = omega (arith, event.1) in
    let column : n % 13 ≡ cache_table.event_number e = omega (arith, event.1) in (
      get-cache n low ∙ ap (λ (p : CellPlace). Some p)
          (ap (λ k. Cache (get_or cache_baseline.all_states k cache_state.I) (get_or cache_baseline.all_events (n % 13) cache_event.Load)) row ∙
          (ap
          (λ k. Cache (get_or cache_baseline.all_states (cache_table.state_number s) cache_state.I)
          (get_or cache_baseline.all_events k cache_event.Load)) column ∙
          (ap (λ x. Cache x (get_or cache_baseline.all_events (cache_table.event_number e) cache_event.Load)) state.0 ∙ ap (Cache s) event.0))),
      omega
          (arith, low),
    )
get-own (Directory s e) =
    let state = directory-state-at s in
    let event = directory-event-at e in
    let n : ℕ = 156 + directory_table.state_number s * 7 + directory_table.event_number e in
    let high : 156 ≤ n = omega arith in
    let low : n < 184 = omega (arith, state.1, event.1) in
    let row : (n - 156) / 7 ≡ directory_table.state_number s = omega (arith, event.1) in
    let column : (n - 156) % 7 ≡ directory_table.event_number e = omega (arith, event.1) in (
      get-directory n high low ∙ ap (λ (p : CellPlace). Some p)
          (ap
          (λ k. Directory (get_or directory_baseline.all_states k directory_state.I)
          (get_or directory_baseline.all_events ((n - 156) % 7) directory_event.GetS)) row ∙
          (ap
          (λ k. Directory (get_or directory_baseline.all_states (directory_table.state_number s) directory_state.I)
          (get_or directory_baseline.all_events k directory_event.GetS)) column ∙
          (ap (λ x. Directory x (get_or directory_baseline.all_events (directory_table.event_number e) directory_event.GetS)) state.0 ∙ ap
          (Directory s) event.0))),
      low,
    )

-- ---- the same where a place is read by `get_or`

pub numbers : map place_number all_places ≡ range_with_len 0 184
numbers = refl

abbrev pub some_place : CellPlace
some_place = Cache cache_state.I cache_event.Load

abbrev pub place_at : ℕ → CellPlace
place_at n = get_or all_places n some_place

pub at-own : (p : CellPlace) → (place_at (place_number p) ≡ p) × (place_number p < 184)
at-own p = let own = get-own p in (get_or_from_slice_get all_places (place_number p) p some_place own.0, own.1)

pub number-at : (n : ℕ) → n < 184 → place_number (place_at n) ≡ n
number-at n low =
    let counted : 0 + n ≡ n = omega arith in
    sym (get_or-map place_number all_places n some_place (place_number some_place) low)
    ∙ (ap (λ l. get_or l n (place_number some_place)) numbers ∙ (get_or-range_with_len 0 184 n 0 low ∙ counted))
