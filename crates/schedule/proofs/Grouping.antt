-- Where the asks about a block are: the bits that are set, and the marks made anew at these places.
use Rattle.std.proofs.Common.{◌≡◌, ◌⊎◌, ℕ, zero, suc, ◌+◌, ◌-◌, ◌*◌, ◌<◌, ◌≤◌, ◌%◌, ◌^◌, Bool, true, false, if◌then◌else◌, List, [], ◌∷◌, Some}
use Rattle.std.proofs.Common.{length, max, not, set, get_or, slice_get, slice_index, inl, inr, refl, sym, ap, ◌∙◌, subst, arith}
use Rattle.std.proofs.Common.{bit_and, bit_or, ◌==◌, ◌&&◌, ◌||◌, true≢false}
use Rattle.std.specs.Int.{bit_at, bit_not, trailing_zeros, w64}
use Rattle.std.proofs.lemmas.Bool.{cases_eq}
use Rattle.std.proofs.lemmas.Bool.Decides.{nat_tests}
use Rattle.std.proofs.lemmas.List.{ext_get_or, get_or-set_other, get_or-set_same}
use Rattle.std.proofs.lemmas.Nat.Bits.{bit_at-lt, bit_at-zero, bit_at_not, bit_at_or, bit_at_set_other, bit_at_set_same}
use Rattle.base.specs.declared.ids.BlockId.{BlockId}
use Rattle.base.specs.declared.ids.CacheId.{CacheId}
use Rattle.base.specs.declared.step.Ask.{Ask}
use Rattle.base.specs.declared.step.Ask.TheVariants.{Load, Store, Replace}
use Rattle.base.specs.declared.step.CoreAsk.{CoreAsk}
use Rattle.blocks.specs.Asking.{holds}
use Rattle.blocks.specs.declared.block.asking.HeldAsks.{HeldAsks}
use Rattle.rows.proofs.Lowest.{others-stay}
use Rattle.rows.specs.Flags.{is_set}
use Rattle.schedule.specs.inner.Groups.{AreIn, AreKinds, IsIn, Stands}
use Rattle.schedule.specs.Marks.{is_at, mark_by, marks_by}
use Rattle.schedule.specs.declared.groups.Row.{Row}
use Rattle.schedule.specs.declared.groups.Row.TheVariants.{Empty, One, Mixed}
use Rattle.schedule.proofs.Marking.{marks-at-length}

-- what stands at a place is what a look finds there
pub same-there : (asks : List CoreAsk) (n : ℕ) (ask d : CoreAsk) → slice_get asks n ≡ Some ask → get_or asks n d ≡ ask
same-there [] n ask d e = absurd (cc e)
same-there (a ∷ asks) zero ask d e = cc e
same-there (a ∷ asks) (suc n) ask d e = same-there asks n ask d e

pub some-there : (asks : List CoreAsk) (n : ℕ) → n < length asks → (ask : CoreAsk) × (slice_get asks n ≡ Some ask)
some-there [] n h = absurd (omega (arith, h))
some-there (a ∷ asks) zero h = (a, refl)
some-there (a ∷ asks) (suc n) h = some-there asks n (omega (arith, h))

pub below-length : (asks : List CoreAsk) (n : ℕ) (ask : CoreAsk) → slice_get asks n ≡ Some ask → n < length asks
below-length [] n ask e = absurd (cc e)
below-length (a ∷ asks) zero ask e = omega arith
below-length (a ∷ asks) (suc n) ask e = let r = below-length asks n ask e in omega (arith, r)

-- ---- the bits of the first asks are set

abbrev pub CoverFirst : List ℕ → List CoreAsk → ℕ → Type 0
CoverFirst places asks number = (n : ℕ) → n < number → (ask : CoreAsk) → slice_get asks n ≡ Some ask →
    bit_at (get_or places (ask.block.0 % 16) 0) n ≡ 1

pub cover-more : (places : List ℕ) (asks : List CoreAsk) (number row old : ℕ) (d : CoreAsk) → number < 64 → length places ≡ 16 →
    row ≡ (get_or asks number d).block.0 % 16 → old ≡ get_or places row 0 → CoverFirst places asks number →
    CoverFirst (set places row (bit_or old (1 * 2 ^ number % 2 ^ 64))) asks (number + 1)
cover-more places asks number row old d small long is was before n low ask there =
    let bits = bit_or old (1 * 2 ^ number % 2 ^ 64) in
    let inside : row < length places = omega (arith, is, long) in
    elim (cases_eq n number) [
      | inl e ↦
          (let here : ask.block.0 % 16 ≡ row =
          ap (λ (a : CoreAsk). a.block.0 % 16) (sym (same-there asks number ask d (subst (λ m. slice_get asks m ≡ Some ask) e there))) ∙ sym is in
          ap (λ r. bit_at (get_or (set places row bits) r 0) n) here
          ∙ ap (λ w. bit_at w n) (get_or-set_same places row bits 0 inside)
          ∙ ap (bit_at bits) e
          ∙ bit_at_set_same w64 old number small)
      | inr ne ↦
          (let earlier = before n (omega (arith, low, ne)) ask there in
          elim (cases_eq (ask.block.0 % 16) row) [
            | inl same ↦
                ap (λ r. bit_at (get_or (set places row bits) r 0) n) same
                ∙ ap (λ w. bit_at w n) (get_or-set_same places row bits 0 inside)
                ∙ bit_at_set_other w64 old number small n ne
                ∙ ap (λ w. bit_at w n) was
                ∙ ap (λ r. bit_at (get_or places r 0) n) (sym same)
                ∙ earlier
            | inr other ↦ ap (λ w. bit_at w n) (get_or-set_other places row (ask.block.0 % 16) bits 0 other) ∙ earlier
          ])
    ]

-- ---- and no others are

pub stands-more : (places : List ℕ) (asks : List CoreAsk) (number row old : ℕ) (d : CoreAsk) → number < 64 → length places ≡ 16 →
    row ≡ (get_or asks number d).block.0 % 16 → old ≡ get_or places row 0 → Stands places asks number →
    Stands (set places row (bit_or old (1 * 2 ^ number % 2 ^ 64))) asks (number + 1)
stands-more places asks number row old d small long is was before = record {
  each = λ n ask low e. cover-more places asks number row old d small long is was (λ m l a f. before.each m a l f) n low ask e;
  inside = λ r n one. elim (entry r n one) [
    | inl here ↦ (let e = here.1 in omega (arith, e))
    | inr there ↦ (let low = before.inside r n there in omega (arith, low))
  ];
  only = λ r n ask one e. elim (entry r n one) [
    | inl here ↦ ap (λ (a : CoreAsk). a.block.0 % 16) (sym (same-there asks number ask d (subst (λ m. slice_get asks m ≡ Some ask) (here.1) e)))
        ∙ sym is ∙ sym here.0
    | inr there ↦ before.only r n ask there e
  ];
}
  where
    bits : ℕ
    bits = bit_or old (1 * 2 ^ number % 2 ^ 64)

    inside : row < length places
    inside = omega (arith, is, long)

    entry : (r n : ℕ) → bit_at (slice_index (set places row bits) r) n ≡ 1 → ((r ≡ row) × (n ≡ number)) ⊎ (bit_at (slice_index places r) n ≡ 1)
    entry r n one =
        elim (cases_eq r row) [
          | inl same ↦
              (let here : bit_at bits n ≡ 1 =
              ap (λ w. bit_at w n) (sym (ap (λ i. get_or (set places row bits) i 0) same ∙ get_or-set_same places row bits 0 inside)) ∙ one in
              elim (cases_eq n number) [
                | inl e ↦ inl (same, e)
                | inr ne ↦
                    inr (ap (λ i. bit_at (get_or places i 0) n) same ∙ ap (λ w. bit_at w n) (sym was)
                    ∙ sym (bit_at_set_other w64 old number small n ne) ∙ here)
              ])
          | inr other ↦ inr (ap (λ w. bit_at w n) (sym (get_or-set_other places row r bits 0 other)) ∙ one)
        ]

-- ---- what the asks of a row have in common

-- ---- the bits of the asks of some kinds

pub record BitsFirst (held : HeldAsks) (bits : ℕ) (asks : List CoreAsk) (number : ℕ) : Type 0 where
  pub first : (n : ℕ) (ask : CoreAsk) → n < number → slice_get asks n ≡ Some ask → (bit_at bits n == 1) ≡ holds held ask.ask
  pub rest : (n : ℕ) → number ≤ n → bit_at bits n ≡ 0

pub bits-more : (held : HeldAsks) (bits : ℕ) (asks : List CoreAsk) (number : ℕ) (d : CoreAsk) → number < 64 →
    holds held (get_or asks number d).ask ≡ true → BitsFirst held bits asks number →
    BitsFirst held (bit_or bits (1 * 2 ^ number % 2 ^ 64)) asks (number + 1)
bits-more held bits asks number d small is before = record {
  first = λ n ask low e. elim (cases_eq n number) [
    | inl q ↦
        ap (λ b. b == 1) (ap (bit_at (bit_or bits (1 * 2 ^ number % 2 ^ 64))) q ∙ bit_at_set_same w64 bits number small)
        ∙ sym (ap (λ (a : CoreAsk). holds held a.ask) (sym (same-there asks number ask d (subst (λ m. slice_get asks m ≡ Some ask) q e))) ∙ is)
    | inr ne ↦ ap (λ b. b == 1) (bit_at_set_other w64 bits number small n ne) ∙ before.first n ask (omega (arith, low, ne)) e
  ];
  rest = λ n h. bit_at_set_other w64 bits number small n (λ e. absurd (omega (arith, h, e))) ∙ before.rest n (omega (arith, h));
}

pub bits-same : (held : HeldAsks) (bits : ℕ) (asks : List CoreAsk) (number : ℕ) (d : CoreAsk) →
    holds held (get_or asks number d).ask ≡ false → BitsFirst held bits asks number → BitsFirst held bits asks (number + 1)
bits-same held bits asks number d is before = record {
  first = λ n ask low e. elim (cases_eq n number) [
    | inl q ↦
        ap (λ b. b == 1) (ap (bit_at bits) q ∙ before.rest number (omega arith))
        ∙ sym (ap (λ (a : CoreAsk). holds held a.ask) (sym (same-there asks number ask d (subst (λ m. slice_get asks m ≡ Some ask) q e))) ∙ is)
    | inr ne ↦ before.first n ask (omega (arith, low, ne)) e
  ];
  rest = λ n h. before.rest n (omega (arith, h));
}

-- ---- the marks at such places are made anew one after another

module _ (held : HeldAsks) (core : CacheId) (block : BlockId) where
  -- the mark of an ask once it is made anew
  abbrev pub anew : CoreAsk → Bool → Bool
  anew ask mark = if is_at core block ask then mark_by held ask else mark

  -- each mark is made anew, or it is as it was and its bit is still set
  abbrev pub AreAnew : List CoreAsk → List Bool → List Bool → ℕ → Type 0
  AreAnew asks start now rest = (k : ℕ) (ask : CoreAsk) → slice_get asks k ≡ Some ask →
      (get_or now k false ≡ anew ask (get_or start k false)) ⊎ ((get_or now k false ≡ get_or start k false) × (bit_at rest k ≡ 1))

  -- a place where an ask about the block is
  pub anew-here : (asks : List CoreAsk) (start now : List Bool) (rest : ℕ) (d : CoreAsk) (mark : Bool) → 0 < rest → rest < 2 ^ 64 →
      trailing_zeros w64 rest < length now → is_at core block (get_or asks (trailing_zeros w64 rest) d) ≡ true →
      mark ≡ mark_by held (get_or asks (trailing_zeros w64 rest) d) → AreAnew asks start now rest →
      AreAnew asks start (set now (trailing_zeros w64 rest) mark) (bit_and rest (rest - 1))
  anew-here asks start now rest d mark some fits inside here is before k ask e =
      let t = trailing_zeros w64 rest in
      elim (cases_eq k t) [
        | inl q ↦
            (let same : get_or asks t d ≡ ask = same-there asks t ask d (subst (λ m. slice_get asks m ≡ Some ask) q e) in
            inl (ap (λ m. get_or (set now t mark) m false) q
            ∙ get_or-set_same now t mark false inside
            ∙ is
            ∙ ap (mark_by held) same
            ∙ ap (λ b. if b then mark_by held ask else get_or start k false) (sym (ap (is_at core block) (sym same) ∙ here))))
        | inr ne ↦
            (let o : get_or (set now t mark) k false ≡ get_or now k false = get_or-set_other now t k mark false ne in
            elim (before k ask e) [
              | inl x ↦ inl (o ∙ x)
              | inr x ↦ inr (o ∙ x.0, others-stay rest k some fits x.1 ne)
            ])
      ]

  -- a place where no ask about the block is
  pub anew-apart : (asks : List CoreAsk) (start now : List Bool) (rest : ℕ) → 0 < rest → rest < 2 ^ 64 →
      ((ask : CoreAsk) → slice_get asks (trailing_zeros w64 rest) ≡ Some ask → is_at core block ask ≡ false) → AreAnew asks start now rest →
      AreAnew asks start now (bit_and rest (rest - 1))
  anew-apart asks start now rest some fits apart before k ask e =
      elim (before k ask e) [
        | inl x ↦ inl x
        | inr x ↦ elim (cases_eq k (trailing_zeros w64 rest)) [
          | inl q ↦ inl (x.0 ∙ ap (λ b. if b then mark_by held ask else get_or start k false)
              (sym (apart ask (subst (λ m. slice_get asks m ≡ Some ask) q e))))
          | inr ne ↦ inr (x.0, others-stay rest k some fits x.1 ne)
        ]
      ]

  -- the same of the ask that is looked at
  pub anew-held : (asks : List CoreAsk) (start now : List Bool) (rest : ℕ) (d : CoreAsk) (is : Bool) → 0 < rest → rest < 2 ^ 64 →
      trailing_zeros w64 rest < length now → is ≡ holds held (get_or asks (trailing_zeros w64 rest) d).ask →
      is_at core block (get_or asks (trailing_zeros w64 rest) d) ≡ true → AreAnew asks start now rest →
      AreAnew asks start (set now (trailing_zeros w64 rest) (not is)) (bit_and rest (rest - 1))
  anew-held asks start now rest d is some fits inside e here before = anew-here asks start now rest d (not is) some fits inside here (ap not e) before

  pub anew-other : (asks : List CoreAsk) (start now : List Bool) (rest : ℕ) (d : CoreAsk) → 0 < rest → rest < 2 ^ 64 →
      is_at core block (get_or asks (trailing_zeros w64 rest) d) ≡ false → AreAnew asks start now rest →
      AreAnew asks start now (bit_and rest (rest - 1))
  anew-other asks start now rest d some fits apart before =
      anew-apart asks start now rest some fits
      (λ ask e. ap (is_at core block) (sym (same-there asks (trailing_zeros w64 rest) ask d e)) ∙ apart) before

  pub anew-past : (asks : List CoreAsk) (start now : List Bool) (rest : ℕ) → 0 < rest → rest < 2 ^ 64 → length asks ≤ trailing_zeros w64 rest →
      AreAnew asks start now rest → AreAnew asks start now (bit_and rest (rest - 1))
  anew-past asks start now rest some fits past before =
      anew-apart asks start now rest some fits
      (λ ask e. absurd (let low = below-length asks (trailing_zeros w64 rest) ask e in omega (arith, low, past))) before

  pub marks-get : (asks : List CoreAsk) (marks : List Bool) (k : ℕ) (ask : CoreAsk) → length marks ≡ length asks → slice_get asks k ≡ Some ask →
      get_or (marks_by held core block asks marks) k false ≡ anew ask (get_or marks k false)
  marks-get [] marks k ask long e = absurd (cc e)
  marks-get (a ∷ asks) [] k ask long e = absurd (omega (arith, long))
  marks-get (a ∷ asks) (m ∷ marks) zero ask long e = let same : a ≡ ask = cc e in ap (λ (x : CoreAsk). anew x m) same
  marks-get (a ∷ asks) (m ∷ marks) (suc k) ask long e = marks-get asks marks k ask (omega (arith, long)) e

  pub anew-all : (asks : List CoreAsk) (start now : List Bool) (rest : ℕ) → length start ≡ length asks → length now ≡ length asks → rest ≡ 0 →
      AreAnew asks start now rest → now ≡ marks_by held core block asks start
  anew-all asks start now rest long many none each =
      ext_get_or false now (marks_by held core block asks start) (many ∙ sym (marks-at-length held core block asks start long))
      (λ k low.
      let at = some-there asks k (omega (arith, low, many)) in
      elim (each k at.0 at.1) [
        | inl x ↦ x ∙ sym (marks-get asks start k at.0 long at.1)
        | inr x ↦ absurd (let zeros : bit_at rest k ≡ 0 = ap (λ w. bit_at w k) none ∙ bit_at-zero k in omega (arith, zeros, x.1))
      ])

  -- marks that were put at the places of all these asks at once
  pub put-marks : (asks : List CoreAsk) (start now : List Bool) (places told : ℕ) → length start ≡ length asks → length now ≡ length asks →
      ((k : ℕ) → is_set now k ≡ (if bit_at places k == 1 then bit_at told k == 1 else is_set start k)) →
      ((k : ℕ) (ask : CoreAsk) → slice_get asks k ≡ Some ask → (bit_at places k == 1) ≡ is_at core block ask) →
      ((k : ℕ) (ask : CoreAsk) → slice_get asks k ≡ Some ask → (bit_at told k == 1) ≡ mark_by held ask) → now ≡ marks_by held core block asks start
  put-marks asks start now places told long many put at by =
      ext_get_or false now (marks_by held core block asks start) (many ∙ sym (marks-at-length held core block asks start long))
      (λ k low.
      let there = some-there asks k (omega (arith, low, many)) in
      put k
      ∙ ap (λ (b : Bool). if b then bit_at told k == 1 else is_set start k) (at k there.0 there.1)
      ∙ ap (λ (b : Bool). if is_at core block there.0 then b else is_set start k) (by k there.0 there.1)
      ∙ sym (marks-get asks start k there.0 long there.1))

-- ---- the places of a row whose asks are all one core's about one block

pub at-places : (rows : List Row) (places : List ℕ) (asks : List CoreAsk) (core of : CacheId) (block about : BlockId) →
    get_or rows (block.0 % 16) Empty ≡ One of about → of.0 ≡ core.0 → about.0 ≡ block.0 → AreIn rows asks (length asks) →
    Stands places asks (length asks) → (k : ℕ) (ask : CoreAsk) → slice_get asks k ≡ Some ask →
    (bit_at (slice_index places (block.0 % 16)) k == 1) ≡ is_at core block ask
at-places rows places asks core of block about one same-core same-block among stands k ask e =
    elim (cases_eq (bit_at (slice_index places (block.0 % 16)) k) 1) [
      | inl here ↦
          (let row : ask.block.0 % 16 ≡ block.0 % 16 = stands.only (block.0 % 16) k ask here e in
          let is : is_at of about ask ≡ true =
          subst (λ r. IsIn r ask) (ap (λ i. get_or rows i Mixed) row ∙ known rows (block.0 % 16) one) (among k ask (below-length asks k ask e) e) in
          ap (λ b. b == 1) here
          ∙ sym (ap (λ c. (ask.core.0 == c) && (ask.block.0 == block.0)) (sym same-core)
          ∙ ap (λ b. (ask.core.0 == of.0) && (ask.block.0 == b)) (sym same-block) ∙ is))
      | inr unset ↦
          elim (true-or-false (is_at core block ask)) [
            | inl is ↦
                absurd (unset (ap (λ i. bit_at (slice_index places i) k) (ap (λ b. b % 16) (sym (block-same core block ask is)))
                ∙ stands.each k ask (below-length asks k ask e) e))
            | inr not-is ↦ off _ (bit_at-lt (slice_index places (block.0 % 16)) k) unset ∙ sym not-is
          ]
    ]
  where
    known : (rows : List Row) (r : ℕ) → get_or rows r Empty ≡ One of about → get_or rows r Mixed ≡ One of about
    known [] r e = absurd (cc e)
    known (row ∷ rows) zero e = e
    known (row ∷ rows) (suc r) e = known rows r e

    true-or-false : (b : Bool) → (b ≡ true) ⊎ (b ≡ false)
    true-or-false true = inl refl
    true-or-false false = inr refl

    off : (b : ℕ) → b < 2 → (b ≡ 1 → ⊥) → (b == 1) ≡ false
    off zero h ne = refl
    off (suc zero) h ne = absurd (ne refl)
    off (suc (suc b)) h ne = absurd (omega (arith, h))

    second : (a b : Bool) → (a && b) ≡ true → b ≡ true
    second true b e = e
    second false b e = absurd (true≢false (sym e))

    equal : (m n : ℕ) → (m == n) ≡ true → m ≡ n
    equal m n e = grind (arith, nat_tests, e)

    block-same : (core : CacheId) (block : BlockId) (ask : CoreAsk) → is_at core block ask ≡ true → ask.block.0 ≡ block.0
    block-same core block ask e = equal ask.block.0 block.0 (second (ask.core.0 == core.0) (ask.block.0 == block.0) e)

-- ---- the bits of the asks that aren't held

pub not-held : (held : HeldAsks) (bits k : ℕ) (ask : CoreAsk) → bits < 2 ^ 64 → k < 64 → (bit_at bits k == 1) ≡ holds held ask.ask →
    (bit_at (bit_not w64 bits) k == 1) ≡ mark_by held ask
not-held held bits k ask fits h is = ap (λ b. b == 1) (bit_at_not w64 bits k fits h) ∙ turned (bit_at bits k) (bit_at-lt bits k) ∙ ap not is
  where
    turned : (b : ℕ) → b < 2 → ((1 - b) == 1) ≡ not (b == 1)
    turned zero h = refl
    turned (suc zero) h = refl
    turned (suc (suc b)) h = absurd (omega (arith, h))

-- ---- the bits of the asks of some kinds at once

pub held-bits : (held : HeldAsks) (loads stores replaces n : ℕ) (asks : List CoreAsk) (ask : CoreAsk) → AreKinds loads stores replaces asks →
    slice_get asks n ≡ Some ask →
    (bit_at (bit_or (bit_or (if held.load then loads else 0) (if held.store then stores else 0)) (if held.replace then replaces else 0)) n == 1)
    ≡ holds held ask.ask
held-bits held loads stores replaces n asks ask kinds e =
    both (bit_or (if held.load then loads else 0) (if held.store then stores else 0)) (if held.replace then replaces else 0)
    ∙ ap (λ b. b || (bit_at (if held.replace then replaces else 0) n == 1)) (both (if held.load then loads else 0) (if held.store then stores else 0))
    ∙ ap (λ b. (b || (bit_at (if held.store then stores else 0) n == 1)) || (bit_at (if held.replace then replaces else 0) n == 1))
    (one held.load loads _ (kinds.load n ask e))
    ∙ ap (λ b. ((held.load && holds (record { load = true; store = false; replace = false }) ask.ask) || b)
    || (bit_at (if held.replace then replaces else 0) n == 1)) (one held.store stores _ (kinds.store n ask e))
    ∙ ap (λ b. ((held.load && holds (record { load = true; store = false; replace = false }) ask.ask)
    || (held.store && holds (record { load = false; store = true; replace = false }) ask.ask)) || b) (one held.replace replaces _ (kinds.replace n ask e))
    ∙ chosen held.load held.store held.replace ask.ask
  where
    either : (a b : ℕ) → a < 2 → b < 2 → (max a b == 1) ≡ ((a == 1) || (b == 1))
    either zero zero h k = refl
    either zero (suc zero) h k = refl
    either (suc zero) zero h k = refl
    either (suc zero) (suc zero) h k = refl
    either a (suc (suc b)) h k = absurd (omega (arith, k))
    either (suc (suc a)) b h k = absurd (omega (arith, h))

    both : (a b : ℕ) → (bit_at (bit_or a b) n == 1) ≡ ((bit_at a n == 1) || (bit_at b n == 1))
    both a b = ap (λ m. m == 1) (bit_at_or a b n) ∙ either (bit_at a n) (bit_at b n) (bit_at-lt a n) (bit_at-lt b n)

    one : (on : Bool) (bits : ℕ) (kind : Bool) → (bit_at bits n == 1) ≡ kind → (bit_at (if on then bits else 0) n == 1) ≡ (on && kind)
    one true bits kind e = e
    one false bits kind e = ap (λ m. m == 1) (bit_at-zero n)

    chosen : (load store replace : Bool) (ask : Ask) →
        (((load && holds (record { load = true; store = false; replace = false }) ask)
        || (store && holds (record { load = false; store = true; replace = false }) ask))
        || (replace && holds (record { load = false; store = false; replace = true }) ask))
        ≡ holds (record { load = load; store = store; replace = replace }) ask
    chosen true true true Load = refl
    chosen true true false Load = refl
    chosen true false true Load = refl
    chosen true false false Load = refl
    chosen false true true Load = refl
    chosen false true false Load = refl
    chosen false false true Load = refl
    chosen false false false Load = refl
    chosen true true true (Store v) = refl
    chosen true true false (Store v) = refl
    chosen true false true (Store v) = refl
    chosen true false false (Store v) = refl
    chosen false true true (Store v) = refl
    chosen false true false (Store v) = refl
    chosen false false true (Store v) = refl
    chosen false false false (Store v) = refl
    chosen true true true Replace = refl
    chosen true true false Replace = refl
    chosen true false true Replace = refl
    chosen true false false Replace = refl
    chosen false true true Replace = refl
    chosen false true false Replace = refl
    chosen false false true Replace = refl
    chosen false false false Replace = refl
