-- The lanes of each core.
use Rattle.std.proofs.Common.{◌≡◌, ℕ, zero, suc, ◌+◌, ◌-◌, ◌<◌, inl, inr, min, List, [], ◌∷◌, length, map}
use Rattle.std.proofs.Common.{Some, get_or, set, slice_get, sym, ap, ◌∙◌, subst, arith, Vec, Global}
use Rattle.std.specs.List.{Contains, insert}
use Rattle.std.proofs.lemmas.List.{length-set, length-map, map-set, get_or-map, get_or-set_same, get_or-set_other}
use Rattle.std.proofs.lemmas.Bool.{cases_eq, cases_lt}
use Rattle.std.proofs.lemmas.Option.{slice_get-get_or}
use Rattle.base.specs.declared.step.CoreAsk.{CoreAsk}
use Rattle.lanes.specs.inner.Kept.{lanes_of, row_of_core}

-- what stands in a list stands there when one more is put in
pub contains-insert : (xs : List ℕ) (place x y : ℕ) → Contains xs x → Contains (insert xs place y) x
contains-insert [] place x y h = absurd (omega (arith, h.1))
contains-insert (z ∷ xs) zero x y (i, low, is) = (suc i, omega (arith, low), is)
contains-insert (z ∷ xs) (suc place) x y (zero, low, is) = (zero, omega arith, is)
contains-insert (z ∷ xs) (suc place) x y (suc i, low, is) =
    let later = contains-insert xs place x y (i, omega (arith, low), is) in (suc later.0, omega (arith, later.1), later.2)

-- a row that got more
row-set : (rows : List (List ℕ)) (row core : ℕ) (v : List ℕ) → row_of_core (set rows row v) core ≡ row_of_core rows core
row-set rows row core v = ap (λ n. min core (n - 1)) (length-set rows row v)

pub grown : (rows : List (List ℕ)) (row core other : ℕ) (v : List ℕ) → row < length rows → ((o : ℕ) → Contains (get_or rows row []) o → Contains v o) →
    Contains (lanes_of rows core) other → Contains (lanes_of (set rows row v) core) other
grown rows row core other v low more there =
    let same : lanes_of (set rows row v) core ≡ get_or (set rows row v) (row_of_core rows core) [] = ap (λ r. get_or (set rows row v) r [])
    (row-set rows row core v) in
    subst (λ xs. Contains xs other) (sym same)
    (elim (cases_eq (row_of_core rows core) row) [
      | inl e ↦ subst (λ xs. Contains xs other)
          (sym (ap (λ r. get_or (set rows row v) r []) e ∙ get_or-set_same rows row v [] low))
          (more other (subst (λ r. Contains (get_or rows r []) other) e there))
      | inr ne ↦ subst (λ xs. Contains xs other) (sym (get_or-set_other rows row (row_of_core rows core) v [] ne)) there
    ])

pub now-in : (rows : List (List ℕ)) (row core lane : ℕ) (v : List ℕ) → row < length rows → row ≡ row_of_core rows core → Contains v lane →
    Contains (lanes_of (set rows row v) core) lane
now-in rows row core lane v low is there =
    subst (λ xs. Contains xs lane)
    (sym (ap (λ r. get_or (set rows row v) r []) (row-set rows row core v ∙ sym is) ∙ get_or-set_same rows row v [] low)) there

-- ---- the same of vectors

abbrev pub rows_in : List (Vec ℕ Global) → List (List ℕ)
rows_in vs = map (λ (of : Vec ℕ Global). of.items) vs

items-at : (vs : List (Vec ℕ Global)) (row : ℕ) (old : Vec ℕ Global) → row < length vs → old ≡ get_or vs row old → get_or (rows_in vs) row [] ≡ old.items
items-at vs row old low is = get_or-map (λ (of : Vec ℕ Global). of.items) vs row old [] low ∙ ap (λ (of : Vec ℕ Global). of.items) (sym is)

low-row : (vs : List (Vec ℕ Global)) (row : ℕ) → row < length vs → row < length (rows_in vs)
low-row vs row low = let m = length-map vs (λ (of : Vec ℕ Global). of.items) in omega (arith, m, low)

pub grown-vec : (vs : List (Vec ℕ Global)) (row core other : ℕ) (old new : Vec ℕ Global) → row < length vs → old ≡ get_or vs row old →
    ((o : ℕ) → Contains old.items o → Contains new.items o) → Contains (lanes_of (rows_in vs) core) other →
    Contains (lanes_of (rows_in (set vs row new)) core) other
grown-vec vs row core other old new low is more there =
    subst (λ rows. Contains (lanes_of rows core) other) (sym (map-set (λ (of : Vec ℕ Global). of.items) vs row new))
    (grown (rows_in vs) row core other new.items (low-row vs row low)
    (λ o h. more o (subst (λ xs. Contains xs o) (items-at vs row old low is) h)) there)

pub now-in-vec : (vs : List (Vec ℕ Global)) (row core lane : ℕ) (new : Vec ℕ Global) → row < length vs → row ≡ min core (length vs - 1) →
    Contains new.items lane →
    Contains (lanes_of (rows_in (set vs row new)) core) lane
now-in-vec vs row core lane new low is there =
    subst (λ rows. Contains (lanes_of rows core) lane) (sym (map-set (λ (of : Vec ℕ Global). of.items) vs row new))
    (now-in (rows_in vs) row core lane new.items (low-row vs row low)
    (is ∙ ap (λ n. min core (n - 1)) (sym (length-map vs (λ (of : Vec ℕ Global). of.items)))) there)

same-some : (d ask : CoreAsk) → Some d ≡ Some ask → d ≡ ask
same-some d ask e = cc e

-- the lanes of a core as they are kept
pub row-items : (vs : List (Vec ℕ Global)) (row core : ℕ) (of : Vec ℕ Global) → row < length vs → of ≡ get_or vs row of → row ≡ min core (length vs - 1) →
    of.items ≡ lanes_of (rows_in vs) core
row-items vs row core of low is at =
    sym (items-at vs row of low is)
    ∙ ap (λ r. get_or (rows_in vs) r []) (at ∙ ap (λ n. min core (n - 1)) (sym (length-map vs (λ (of : Vec ℕ Global). of.items))))

-- one more of the offers has been looked at
pub one-more : (offers : List CoreAsk) (n lane : ℕ) (rows : List (List ℕ)) (d : CoreAsk) →
    ((at : ℕ) (ask : CoreAsk) → at < n → slice_get offers at ≡ Some ask → Contains (lanes_of rows ask.core.0) lane) →
    n < length offers → Contains (lanes_of rows (get_or offers n d).core.0) lane →
    (at : ℕ) (ask : CoreAsk) → at < n + 1 → slice_get offers at ≡ Some ask → Contains (lanes_of rows ask.core.0) lane
one-more offers n lane rows d before there here at ask low e = elim (cases_lt at n) [
  | inl l ↦ before at ask l e
  | inr l ↦
      let z : at ≡ n = omega (arith, l, low) in
      let q : Some (get_or offers n d) ≡ Some ask = sym (slice_get-get_or offers n d there) ∙ ap (slice_get offers) (sym z) ∙ e in
      subst (λ (o : CoreAsk). Contains (lanes_of rows o.core.0) lane) (same-some (get_or offers n d) ask q) here
]
