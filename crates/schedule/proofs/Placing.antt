-- Where asks are by their places: one more is put into its row, and marks are made anew at the places of a row.
use Rattle.std.proofs.Common.{◌≡◌, ◌≢◌, ◌⊎◌, ℕ, zero, suc, ◌+◌, ◌<◌, ◌≤◌, ◌%◌, Bool, true, false, if◌then◌else◌, List, [], ◌∷◌, ◌++◌, Some, Vec, Global}
use Rattle.std.proofs.Common.{length, map, not, set, get_or, slice_get, inl, inr, refl, sym, ap, ◌∙◌, subst, arith}
use Rattle.std.specs.List.{Contains}
use Rattle.std.proofs.lemmas.Bool.{cases_Bool, cases_eq, cases_lt}
use Rattle.std.proofs.lemmas.List.{ext_get_or, get_or-map, get_or-set_other, get_or-set_same, get_or_default, length-map, map-set}
use Rattle.base.specs.declared.ids.BlockId.{BlockId}
use Rattle.base.specs.declared.ids.CacheId.{CacheId}
use Rattle.base.specs.declared.step.CoreAsk.{CoreAsk}
use Rattle.blocks.specs.Asking.{holds}
use Rattle.blocks.specs.declared.block.asking.HeldAsks.{HeldAsks}
use Rattle.schedule.specs.inner.Places.{AreInRows}
use Rattle.schedule.specs.Marks.{is_at, mark_by, marks_by}
use Rattle.schedule.proofs.Grouping.{anew, below-length, marks-get, same-there, some-there}
use Rattle.schedule.proofs.Marking.{marks-at-length}

-- ---- one more ask is placed

-- what stands in a row stands in a longer one, and so does what is put behind it
contains-front : (xs : List ℕ) (x y : ℕ) → Contains xs x → Contains (xs ++ (y ∷ [])) x
contains-front [] x y h = absurd (omega (arith, h.1))
contains-front (z ∷ xs) x y (zero, low, is) = (zero, omega arith, is)
contains-front (z ∷ xs) x y (suc k, low, is) = let later = contains-front xs x y (k, omega (arith, low), is) in (suc later.0, omega (arith, later.1), later.2)

contains-last : (xs : List ℕ) (x : ℕ) → Contains (xs ++ (x ∷ [])) x
contains-last [] x = (zero, omega arith, refl)
contains-last (y ∷ xs) x = let later = contains-last xs x in (suc later.0, omega (arith, later.1), later.2)

placed-in : (rows : List (List ℕ)) (asks : List CoreAsk) (number row : ℕ) (d : CoreAsk) → row < length rows →
    row ≡ (get_or asks number d).block.0 % 64 → AreInRows rows asks number →
    AreInRows (set rows row (get_or rows row [] ++ (number ∷ []))) asks (number + 1)
placed-in rows asks number row d inside is before n ask low there =
    let longer = get_or rows row [] ++ (number ∷ []) in
    elim (cases_eq n number) [
      | inl e ↦
          (let here : ask.block.0 % 64 ≡ row =
          ap (λ (a : CoreAsk). a.block.0 % 64) (sym (same-there asks number ask d (subst (λ m. slice_get asks m ≡ Some ask) e there))) ∙ sym is in
          subst (λ xs. Contains xs n) (sym (ap (λ r. get_or (set rows row longer) r []) here ∙ get_or-set_same rows row longer [] inside))
          (subst (λ m. Contains longer m) (sym e) (contains-last (get_or rows row []) number)))
      | inr ne ↦
          (let was = before n ask (omega (arith, low, ne)) there in
          elim (cases_eq (ask.block.0 % 64) row) [
            | inl same ↦ subst (λ xs. Contains xs n)
                (sym (ap (λ r. get_or (set rows row longer) r []) same ∙ get_or-set_same rows row longer [] inside))
                (contains-front (get_or rows row []) n number (subst (λ r. Contains (get_or rows r []) n) same was))
            | inr other ↦ subst (λ xs. Contains xs n) (sym (get_or-set_other rows row (ask.block.0 % 64) longer [] other)) was
          ])
    ]

-- ---- the same of vectors

abbrev pub rows_in : List (Vec ℕ Global) → List (List ℕ)
rows_in vs = map (λ (row : Vec ℕ Global). row.items) vs

pub items-at : (vs : List (Vec ℕ Global)) (row : ℕ) (old : Vec ℕ Global) → row < length vs → old ≡ get_or vs row old → get_or (rows_in vs) row [] ≡ old.items
items-at vs row old low is = get_or-map (λ (of : Vec ℕ Global). of.items) vs row old [] low ∙ ap (λ (of : Vec ℕ Global). of.items) (sym is)

pub placed-more : (vs : List (Vec ℕ Global)) (asks : List CoreAsk) (number row : ℕ) (d : CoreAsk) (old new : Vec ℕ Global) → row < length vs →
    old ≡ get_or vs row old → new.items ≡ old.items ++ (number ∷ []) → row ≡ (get_or asks number d).block.0 % 64 → AreInRows (rows_in vs) asks number →
    AreInRows (rows_in (set vs row new)) asks (number + 1)
placed-more vs asks number row d old new low is more at before =
    subst (λ rows. AreInRows rows asks (number + 1))
    (sym (map-set (λ (of : Vec ℕ Global). of.items) vs row new
    ∙ ap (set (rows_in vs) row) (more ∙ ap (λ xs. xs ++ (number ∷ [])) (sym (items-at vs row old low is)))))
    (placed-in (rows_in vs) asks number row d (let m = length-map vs (λ (of : Vec ℕ Global). of.items) in omega (arith, m, low)) at before)

pub none-placed : (rows : List (List ℕ)) (asks : List CoreAsk) → AreInRows rows asks 0
none-placed rows asks n ask low e = absurd (omega (arith, low))

-- where more are placed, fewer are
pub placed-before : (rows : List (List ℕ)) (asks : List CoreAsk) (count : ℕ) → length asks ≤ count → AreInRows rows asks count →
    AreInRows rows asks (length asks)
placed-before rows asks count all placed n ask low e = placed n ask (omega (arith, low, all)) e

-- ---- the marks at places are made anew one after another

module _ (held : HeldAsks) (core : CacheId) (block : BlockId) where
  -- each mark is made anew, or it is as it was and its place hasn't come yet
  abbrev pub AreAnewBy : List CoreAsk → List Bool → List Bool → List ℕ → ℕ → Type 0
  AreAnewBy asks start now places count = (k : ℕ) (ask : CoreAsk) → slice_get asks k ≡ Some ask →
      (get_or now k false ≡ anew held core block ask (get_or start k false))
      ⊎ ((get_or now k false ≡ get_or start k false) × ((i : ℕ) → i < count → get_or places i 0 ≢ k))

  pub anew-none : (asks : List CoreAsk) (start : List Bool) (places : List ℕ) → AreAnewBy asks start start places 0
  anew-none asks start places k ask e = inr (refl, λ i low q. absurd (omega (arith, low)))

  -- one more place isn't that of an ask
  not-yet : (places : List ℕ) (count k : ℕ) → ((i : ℕ) → i < count → get_or places i 0 ≢ k) → get_or places count 0 ≢ k →
      (i : ℕ) → i < count + 1 → get_or places i 0 ≢ k
  not-yet places count k before ne i low e = elim (cases_lt i count) [
    | inl l ↦ before i l e
    | inr l ↦ (let z : i ≡ count = omega (arith, l, low) in ne (ap (λ j. get_or places j 0) (sym z) ∙ e))
  ]

  -- nothing has to be done at a place where no ask is, or another one
  anew-apart : (asks : List CoreAsk) (start now : List Bool) (places : List ℕ) (count : ℕ) →
      ((ask : CoreAsk) → slice_get asks (get_or places count 0) ≡ Some ask → is_at core block ask ≡ false) →
      AreAnewBy asks start now places count → AreAnewBy asks start now places (count + 1)
  anew-apart asks start now places count apart before k ask e = elim (before k ask e) [
    | inl x ↦ inl x
    | inr x ↦ elim (cases_eq (get_or places count 0) k) [
      | inl q ↦ inl (x.0 ∙ ap (λ b. if b then mark_by held ask else get_or start k false)
          (sym (apart ask (subst (λ m. slice_get asks m ≡ Some ask) (sym q) e))))
      | inr ne ↦ inr (x.0, not-yet places count k x.1 ne)
    ]
  ]

  pub anew-past : (asks : List CoreAsk) (start now : List Bool) (places : List ℕ) (count : ℕ) → length asks ≤ get_or places count 0 →
      AreAnewBy asks start now places count → AreAnewBy asks start now places (count + 1)
  anew-past asks start now places count past before =
      anew-apart asks start now places count
      (λ ask e. absurd (let low = below-length asks (get_or places count 0) ask e in omega (arith, low, past))) before

  pub anew-other : (asks : List CoreAsk) (start now : List Bool) (places : List ℕ) (count : ℕ) (d : CoreAsk) →
      is_at core block (get_or asks (get_or places count 0) d) ≡ false →
      AreAnewBy asks start now places count → AreAnewBy asks start now places (count + 1)
  anew-other asks start now places count d apart before =
      anew-apart asks start now places count
      (λ ask e. ap (is_at core block) (sym (same-there asks (get_or places count 0) ask d e)) ∙ apart) before

  -- the mark at a place where an ask about the block is
  pub anew-held : (asks : List CoreAsk) (start now : List Bool) (places : List ℕ) (count : ℕ) (d : CoreAsk) (is : Bool) →
      get_or places count 0 < length now → is ≡ holds held (get_or asks (get_or places count 0) d).ask →
      is_at core block (get_or asks (get_or places count 0) d) ≡ true → AreAnewBy asks start now places count →
      AreAnewBy asks start (set now (get_or places count 0) (not is)) places (count + 1)
  anew-held asks start now places count d is inside held-is here before k ask e =
      let t = get_or places count 0 in
      elim (cases_eq k t) [
        | inl q ↦
            (let same : get_or asks t d ≡ ask = same-there asks t ask d (subst (λ m. slice_get asks m ≡ Some ask) q e) in
            inl (ap (λ m. get_or (set now t (not is)) m false) q
            ∙ get_or-set_same now t (not is) false inside
            ∙ ap not held-is
            ∙ ap (mark_by held) same
            ∙ ap (λ b. if b then mark_by held ask else get_or start k false) (sym (ap (is_at core block) (sym same) ∙ here))))
        | inr ne ↦
            (let o : get_or (set now t (not is)) k false ≡ get_or now k false = get_or-set_other now t k (not is) false ne in
            elim (before k ask e) [
              | inl x ↦ inl (o ∙ x)
              | inr x ↦ inr (o ∙ x.0, not-yet places count k x.1 (λ q. ne (sym q)))
            ])
      ]

  pub anew-all : (asks : List CoreAsk) (start now : List Bool) (places : List ℕ) (count : ℕ) → length start ≡ length asks → length now ≡ length asks →
      length places ≤ count → ((k : ℕ) (ask : CoreAsk) → slice_get asks k ≡ Some ask → is_at core block ask ≡ true → Contains places k) →
      AreAnewBy asks start now places count → now ≡ marks_by held core block asks start
  anew-all asks start now places count long many all there each =
      ext_get_or false now (marks_by held core block asks start) (many ∙ sym (marks-at-length held core block asks start long))
      (λ k low.
      let at = some-there asks k (omega (arith, low, many)) in
      elim (each k at.0 at.1) [
        | inl x ↦ x ∙ sym (marks-get held core block asks start k at.0 long at.1)
        | inr x ↦ elim (cases_Bool (is_at core block at.0)) [
          | inl y ↦ (let c = there k at.0 at.1 y in
              absurd (x.1 c.0 (omega (arith, c.1, all)) (get_or_default places c.0 0 k c.1 ∙ c.2)))
          | inr n ↦ x.0
              ∙ ap (λ b. if b then mark_by held at.0 else get_or start k false) (sym n)
              ∙ sym (marks-get held core block asks start k at.0 long at.1)
        ]
      ])
