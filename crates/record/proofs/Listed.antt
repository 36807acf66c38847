-- The cells that have been read are those that the tables change.
use Rattle.std.proofs.Common.{◌≡◌, ◌≢◌, ℕ, zero, suc, ◌+◌, ◌-◌, ◌<◌, ◌≤◌, true, false, cond, not, List, [], ◌∷◌, ◌++◌, take, map, refl, sym, ap, ◌∙◌, arith}
use Rattle.std.proofs.lemmas.List.{take_more, append-nil}
use Rattle.base.proofs.Same.{entry-self}
use Rattle.base.specs.Words.{words}
use Rattle.cache_table.specs.Names.{action_number}
use Rattle.cache_table.specs.Table as cache_table
use Rattle.directory_table.specs.Names as directory_names
use Rattle.directory_table.specs.Table as directory_table
use Rattle.tables.specs.CellPlaces.{all_places, place_number}
use Rattle.tables.specs.Tables.{Tables, baseline_of}
use Rattle.tables.specs.declared.cell_places.CellPlace.{CellPlace}
use Rattle.tables.proofs.CellPlaces.{some_place, place_at, at-own, number-at}
use Rattle.record_lines.specs.declared.cells.Cell.{Cell}
use Rattle.record_lines.specs.declared.cells.Cell.TheVariants as cell
use Rattle.record_lines.specs.Cells.{cell_at, is_same, place_of}
use Rattle.record.specs.Text.{changed, changed_cells, is_changed}
use Rattle.record_lines.specs.Text.{line}
use Rattle.record_lines.specs.Grammar.{MayBeListed}
use Rattle.record_lines.specs.Refused.{ended}
use Rattle.record.specs.inner.Drafts.{IsBaselineFrom}
use Rattle.record.proofs.Changed.{changed-append}
use Rattle.record_lines.proofs.Words.{spelled-text}

-- ---- a line of these words

pub ended-line : (l : List ℕ) (ws : List (List ℕ)) → words l ≡ ws → ended l ≡ line ws
ended-line l ws is = ap (λ x. x ++ 10 ∷ []) (spelled-text l ws is)

-- ---- the cells that differ, place by place

kept_if : Cell → Cell → List Cell
kept_if c d = cond (not (is_same c d)) (c ∷ []) []

changed-one : (t : Tables) (s : CellPlace) → changed t (s ∷ []) ≡ kept_if (cell_at t s) (cell_at (baseline_of t.protocol) s)
unfolding kept_if
changed-one t s = elim (is_changed t s) as (λ b. map (cell_at t) (cond b (s ∷ []) []) ≡ cond b (cell_at t s ∷ []) []) [
  | true ↦ refl
  | false ↦ refl
]

pub same-self : (c : Cell) → is_same c c ≡ true
same-self (cell.Cache s e x) = entry-self cache_table.state_number action_number x
same-self (cell.Directory s e x) = entry-self directory_table.state_number directory_names.action_number x

kept-none : (c : Cell) → kept_if c c ≡ []
unfolding kept_if
kept-none c = rw (same-self c) refl

kept-one : (c d : Cell) → is_same c d ≡ false → kept_if c d ≡ c ∷ []
unfolding kept_if
kept-one c d e = rw e refl

more : (t : Tables) (k : ℕ) → k < 184 →
    changed t (take (k + 1) all_places) ≡ changed t (take k all_places) ++ kept_if (cell_at t (place_at k)) (cell_at (baseline_of t.protocol) (place_at k))
more t k low =
    ap (changed t) (take_more all_places k some_place low)
    ∙ (changed-append t (take k all_places) (place_at k ∷ []) ∙ ap (λ cs. changed t (take k all_places) ++ cs) (changed-one t (place_at k)))

-- places that are as in the protocol's own tables add nothing
skipped : (t : Tables) (from d : ℕ) → from + d ≤ 184 →
    ((s : CellPlace) → from ≤ place_number s → place_number s < from + d → cell_at t s ≡ cell_at (baseline_of t.protocol) s) →
    changed t (take (from + d) all_places) ≡ changed t (take from all_places)
skipped t from zero low same = ap (λ n. changed t (take n all_places)) (omega arith)
skipped t from (suc d) low same =
    let k : ℕ = from + d in
    let here = number-at k (omega (arith, low)) in
    let own : Cell = cell_at (baseline_of t.protocol) (place_at k) in
    let is : cell_at t (place_at k) ≡ own = same (place_at k) (omega (arith, here)) (omega (arith, here)) in
    let n : from + suc d ≡ k + 1 = omega arith in
    ap (λ m. changed t (take m all_places)) n
    ∙ (more t k (omega (arith, low))
    ∙ (ap (λ c. changed t (take k all_places) ++ kept_if c own) is
    ∙ (ap (λ cs. changed t (take k all_places) ++ cs) (kept-none own)
    ∙ (append-nil (changed t (take k all_places)) ∙ skipped t from d (omega (arith, low)) (λ s high below. same s high (omega (arith, below)))))))

-- places before a changed one stay
stayed : (t u : Tables) (n : ℕ) → u.protocol ≡ t.protocol → n ≤ 184 → ((s : CellPlace) → place_number s < n → cell_at u s ≡ cell_at t s) →
    changed u (take n all_places) ≡ changed t (take n all_places)
stayed t u zero p low same = refl
stayed t u (suc k) p low same =
    let here = number-at k (omega (arith, low)) in
    let is : cell_at u (place_at k) ≡ cell_at t (place_at k) = same (place_at k) (omega (arith, here)) in
    let n : suc k ≡ k + 1 = omega arith in
    ap (λ m. changed u (take m all_places)) n
    ∙ (more u k (omega (arith, low))
    ∙ (ap (λ c. changed u (take k all_places) ++ kept_if c (cell_at (baseline_of u.protocol) (place_at k))) is
    ∙ (ap (λ q. changed u (take k all_places) ++ kept_if (cell_at t (place_at k)) (cell_at (baseline_of q) (place_at k))) p
    ∙ (ap (λ cs. cs ++ kept_if (cell_at t (place_at k)) (cell_at (baseline_of t.protocol) (place_at k)))
    (stayed t u k p (omega (arith, low)) (λ s below. same s (omega (arith, below))))
    ∙ (sym (more t k (omega (arith, low))) ∙ ap (λ m. changed t (take m all_places)) (sym n))))))

other-number : (s c : CellPlace) → place_number s ≢ place_number c → s ≢ c
other-number s c ne e = ne (ap place_number e)

-- one cell more
pub listed-more : (t u : Tables) (from : ℕ) (cell : Cell) → u.protocol ≡ t.protocol → IsBaselineFrom from t → MayBeListed t.protocol from cell →
    cell_at u (place_of cell) ≡ cell → ((s : CellPlace) → s ≢ place_of cell → cell_at u s ≡ cell_at t s)
    → changed u (take (place_number (place_of cell) + 1) all_places) ≡ changed t (take from all_places) ++ cell ∷ []
listed-more t u from cell p plain listed here others =
    let own_of : CellPlace → Cell = cell_at (baseline_of t.protocol) in
    let own = at-own (place_of cell) in
    let n : ℕ = place_number (place_of cell) in
    let d : ℕ = n - from in
    let reach : from + d ≡ n = omega (arith, listed.in_order) in
    let before : (s : CellPlace) → place_number s < n → cell_at u s ≡ cell_at t s =
    λ s below. others s (other-number s (place_of cell) (λ e. absurd (omega (arith, below, e)))) in
    let skip =
    skipped u from d (omega (arith, reach, own.1))
    (λ s high below. before s (omega (arith, below, reach)) ∙ plain s high ∙ ap (λ q. cell_at (baseline_of q) s) (sym p)) in
    let cell_here : cell_at u (place_at n) ≡ cell = ap (cell_at u) own.0 ∙ here in
    more u n own.1
    ∙ (ap (λ c. changed u (take n all_places) ++ kept_if c (cell_at (baseline_of u.protocol) (place_at n))) cell_here
    ∙ (ap (λ q. changed u (take n all_places) ++ kept_if cell (cell_at (baseline_of q) (place_at n))) p
    ∙ (ap (λ s. changed u (take n all_places) ++ kept_if cell (own_of s)) own.0
    ∙ (ap (λ cs. changed u (take n all_places) ++ cs) (kept-one cell (own_of (place_of cell)) listed.differs)
    ∙ ap (λ cs. cs ++ cell ∷ [])
    (ap (λ m. changed u (take m all_places)) (sym reach) ∙
    (skip ∙ stayed t u from p (omega (arith, own.1, listed.in_order)) (λ s below. before s (omega (arith, below, listed.in_order)))))))))

pub plain-more : (t u : Tables) (from : ℕ) (cell : Cell) → u.protocol ≡ t.protocol → IsBaselineFrom from t → from ≤ place_number (place_of cell) →
    ((s : CellPlace) → s ≢ place_of cell → cell_at u s ≡ cell_at t s) → IsBaselineFrom (place_number (place_of cell) + 1) u
plain-more t u from cell p plain order others s high =
    others s (other-number s (place_of cell) (λ e. absurd (omega (arith, high, e)))) ∙ plain s (omega (arith, high, order))
    ∙ ap (λ q. cell_at (baseline_of q) s) (sym p)

-- at the end nothing more differs
pub listed-all : (t : Tables) (from : ℕ) → from ≤ 184 → IsBaselineFrom from t → changed t (take from all_places) ≡ changed_cells t
listed-all t from low plain =
    let d : ℕ = 184 - from in
    let reach : from + d ≡ 184 = omega (arith, low) in
    sym (skipped t from d (omega (arith, reach)) (λ s high below. plain s high)) ∙ ap (λ m. changed t (take m all_places)) reach
