-- A write that goes up a tree of sums.
use Rattle.std.proofs.Common.{ℕ, ◌≡◌, ◌≢◌, ◌+◌, ◌-◌, ◌*◌, ◌/◌, ◌^◌, ◌<◌, ◌≤◌, ◌⊎◌, List}
use Rattle.std.proofs.Common.{length, set, get_or, ap, sym, ◌∙◌, arith, inl, inr, slice_index}
use Rattle.std.proofs.lemmas.Bool.{cases_eq, cases_lt}
use Rattle.std.proofs.lemmas.List.{ext_get_or, get_or-set_other, get_or-set_same, length-set}
use Rattle.rows.specs.inner.Tree.{IsRising, IsSummed, IsTree, below, numbers_of}
use Rattle.rows.proofs.Tree.{node-fits, number-at, numbers-length}

pub other : (tree : List ℕ) (at v i : ℕ) → i ≢ at → slice_index (set tree at v) i ≡ slice_index tree i
other tree at v i ne = get_or-set_other tree at i v 0 ne

pub here : (tree : List ℕ) (at v : ℕ) → at < length tree → slice_index (set tree at v) at ≡ v
here tree at v h = get_or-set_same tree at v 0 h

-- four nodes none of which is written
apart : (tree : List ℕ) (node v i : ℕ) → (node ≤ 4 * i) ⊎ (4 * i + 4 < node) → below (set tree node v) i ≡ below tree i
apart tree node v i (inl h) =
    let a = other tree node v (4 * i + 1) (λ e. absurd (omega (arith, e, h))) in
    let b = other tree node v (4 * i + 2) (λ e. absurd (omega (arith, e, h))) in
    let c = other tree node v (4 * i + 3) (λ e. absurd (omega (arith, e, h))) in
    let d = other tree node v (4 * i + 4) (λ e. absurd (omega (arith, e, h))) in
    omega arith
apart tree node v i (inr h) =
    let a = other tree node v (4 * i + 1) (λ e. absurd (omega (arith, e, h))) in
    let b = other tree node v (4 * i + 2) (λ e. absurd (omega (arith, e, h))) in
    let c = other tree node v (4 * i + 3) (λ e. absurd (omega (arith, e, h))) in
    let d = other tree node v (4 * i + 4) (λ e. absurd (omega (arith, e, h))) in
    omega arith

-- what a write makes of one node
written-at : (tree : List ℕ) (node v i : ℕ) → node < length tree →
    ((i ≡ node) × ((slice_index (set tree node v) i ≡ v) × (slice_index tree i ≡ slice_index tree node))) ⊎
    ((i ≢ node) × (slice_index (set tree node v) i ≡ slice_index tree i))
written-at tree node v i inside =
    elim (cases_eq i node) [
      | inl e ↦ inl (e, (ap (slice_index (set tree node v)) e ∙ here tree node v inside, ap (slice_index tree) e))
      | inr ne ↦ inr (ne, other tree node v i ne)
    ]

-- four nodes one of which is written
beside : (tree : List ℕ) (node v i : ℕ) → node < length tree → 4 * i < node → node ≤ 4 * i + 4 →
    below (set tree node v) i + slice_index tree node ≡ below tree i + v
beside tree node v i inside least most =
    elim (written-at tree node v (4 * i + 1) inside) [
      | inl a ↦
          let b = other tree node v (4 * i + 2) (λ e. absurd (omega (arith, e, a.0))) in
          let c = other tree node v (4 * i + 3) (λ e. absurd (omega (arith, e, a.0))) in
          let d = other tree node v (4 * i + 4) (λ e. absurd (omega (arith, e, a.0))) in
          omega (arith, a.1.0, a.1.1)
      | inr a ↦
          elim (written-at tree node v (4 * i + 2) inside) [
            | inl b ↦
                let c = other tree node v (4 * i + 3) (λ e. absurd (omega (arith, e, b.0))) in
                let d = other tree node v (4 * i + 4) (λ e. absurd (omega (arith, e, b.0))) in
                omega (arith, a.1, b.1.0, b.1.1)
            | inr b ↦
                elim (written-at tree node v (4 * i + 3) inside) [
                  | inl c ↦ (let d = other tree node v (4 * i + 4) (λ e. absurd (omega (arith, e, c.0))) in omega (arith, a.1, b.1, c.1.0, c.1.1))
                  | inr c ↦
                      (let last : 4 * i + 4 ≡ node = omega (arith, a.0, b.0, c.0) in
                      let d = ap (slice_index (set tree node v)) last ∙ here tree node v inside in
                      let e = ap (slice_index tree) last in
                      omega (arith, a.1, b.1, c.1))
                ]
          ]
    ]

-- what stands at one of four is no more than they
part : (tree : List ℕ) (node i : ℕ) → 4 * i < node → node ≤ 4 * i + 4 → slice_index tree node ≤ below tree i
part tree node i least most =
    elim (cases_eq node (4 * i + 1)) [
      | inl e ↦ (let same = ap (slice_index tree) e in omega arith)
      | inr first-not ↦
          elim (cases_eq node (4 * i + 2)) [
            | inl e ↦ (let same = ap (slice_index tree) e in omega arith)
            | inr neither ↦
                elim (cases_eq node (4 * i + 3)) [
                  | inl e ↦ (let same = ap (slice_index tree) e in omega arith)
                  | inr none ↦
                      (let same : slice_index tree node ≡ slice_index tree (4 * i + 4) = ap (slice_index tree) (omega (arith, first-not, neither, none)) in
                      omega arith)
                ]
          ]
    ]

pub rising-start : (tree : List ℕ) (first levels count at before after : ℕ) → IsTree tree first levels count → at < count →
    before ≡ slice_index tree (first + at) → IsRising (set tree (first + at) after) first (first + at) before after
rising-start tree first levels count at before after kept h was =
    let long = kept.long in
    let wide = kept.wide in
    let inside : first + at < length tree = omega arith in
    record {
      others = λ i low off.
          let sum = kept.sums.each i low in
          let a = other tree (first + at) after i (λ e. absurd (omega (arith, e, low))) in
          let b = apart tree (first + at) after i off in
          omega arith;
      over = λ i least most.
          let sum = kept.sums.each i (omega arith) in
          let a = other tree (first + at) after i (λ e. absurd (omega (arith, e, least))) in
          let b = beside tree (first + at) after i inside least most in
          omega arith;
      has = omega (arith, here tree (first + at) after inside);
      room = λ i low.
          let a = other tree (first + at) after i (λ e. absurd (omega (arith, e, low))) in
          let b = node-fits tree first levels count i kept (omega arith) in
          omega arith;
    }

-- what the node over a write is written to
pub record IsStep (tree : List ℕ) (first node before after : ℕ) : Type 0 where
  pub less : before ≤ slice_index tree ((node - 1) / 4)
  pub fits : slice_index tree ((node - 1) / 4) - before + after < 2 ^ 64
  pub next : IsRising (set tree ((node - 1) / 4) (slice_index tree ((node - 1) / 4) - before + after)) first ((node - 1) / 4) before after

pub rising-step : (tree : List ℕ) (first node before after : ℕ) → IsRising tree first node before after → 0 < node → node < 4 * first + 1 →
    4 * first + 1 ≤ length tree → after < 2 ^ 32 → IsStep tree first node before after
rising-step tree first node before after rising some inside long small =
    let p : ℕ = (node - 1) / 4 in
    let least : 4 * ((node - 1) / 4) < node = omega arith in
    let most : node ≤ 4 * ((node - 1) / 4) + 4 = omega arith in
    let over = rising.over ((node - 1) / 4) least most in
    let has = rising.has in
    let room = rising.room ((node - 1) / 4) (omega arith) in
    let within = part tree node ((node - 1) / 4) least most in
    let short : (node - 1) / 4 < length tree = omega arith in
    let v : ℕ = slice_index tree ((node - 1) / 4) - before + after in
    let less : before ≤ slice_index tree ((node - 1) / 4) = omega arith in
    let now = here tree ((node - 1) / 4) (slice_index tree ((node - 1) / 4) - before + after) short in
    record {
      less = less;
      fits = omega arith;
      next = record {
        others = λ i low off.
            let four = apart tree ((node - 1) / 4) (slice_index tree ((node - 1) / 4) - before + after) i off in
            elim (cases_eq i ((node - 1) / 4)) [
              | inl e ↦
                  let a : slice_index (set tree ((node - 1) / 4) (slice_index tree ((node - 1) / 4) - before + after)) i ≡
                  slice_index tree ((node - 1) / 4) - before + after =
                  ap (slice_index (set tree ((node - 1) / 4) (slice_index tree ((node - 1) / 4) - before + after))) e ∙ now in
                  let same : below tree i ≡ below tree ((node - 1) / 4) = ap (below tree) e in
                  omega arith
              | inr ne ↦
                  let away : (node ≤ 4 * i) ⊎ (4 * i + 4 < node) =
                  elim (cases_lt (4 * i) node) [
                    | inl l ↦ inr (omega (arith, ne))
                    | inr g ↦ inl g
                  ] in
                  let sum = rising.others i low away in
                  let a = other tree ((node - 1) / 4) (slice_index tree ((node - 1) / 4) - before + after) i ne in
                  omega arith
            ];
        over = λ i down up.
            let sum = rising.others i (omega arith) (inr (omega arith)) in
            let a = other tree ((node - 1) / 4) (slice_index tree ((node - 1) / 4) - before + after) i (λ e. absurd (omega (arith, e, down))) in
            let b = beside tree ((node - 1) / 4) (slice_index tree ((node - 1) / 4) - before + after) i short down up in
            omega arith;
        has = omega arith;
        room = λ i low.
            let a = other tree ((node - 1) / 4) (slice_index tree ((node - 1) / 4) - before + after) i (λ e. absurd (omega (arith, e, low))) in
            let b = rising.room i (omega arith) in
            omega arith;
      };
    }

-- once it is up all nodes are sums
pub rising-end : (tree : List ℕ) (first node before after : ℕ) → IsRising tree first node before after → node ≤ 0 → IsSummed tree first
rising-end tree first node before after rising h = record { each = λ i low. rising.others i low (inl (omega arith)) }

-- what a write makes of the tree
pub record IsWritten (tree new : List ℕ) (first levels count at value : ℕ) : Type 0 where
  pub kept : IsTree new first levels count
  pub numbers : numbers_of new first count ≡ set (numbers_of tree first count) at value

pub written : (tree new : List ℕ) (first levels count at value : ℕ) → IsTree tree first levels count → at < count → value < 2 ^ 32 →
    length new ≡ length tree →
    ((i : ℕ) → first ≤ i → slice_index new i ≡ slice_index (set tree (first + at) value) i) → IsSummed new first →
    IsWritten tree new first levels count at value
written tree new first levels count at value kept h small long leaves summed =
    record { kept = after; numbers = same }
  where
    inside : first + at < length tree
    inside = let l = kept.long in let wide = kept.wide in omega arith

    after : IsTree new first levels count
    after = record {
      begins = kept.begins;
      long = omega (arith, kept.long);
      wide = kept.wide;
      few = kept.few;
      sums = summed;
      small = λ i q.
          elim (cases_eq i (first + at)) [
            | inl e ↦
                let a : slice_index (set tree (first + at) value) i ≡ value =
                ap (slice_index (set tree (first + at) value)) e ∙ here tree (first + at) value inside in
                omega (arith, leaves i q)
            | inr ne ↦ omega (arith, leaves i q, other tree (first + at) value i ne, kept.small i q)
          ];
      past = λ i q. leaves i (omega arith) ∙ other tree (first + at) value i (λ e. absurd (omega (arith, e, q))) ∙ kept.past i q;
    }

    same : numbers_of new first count ≡ set (numbers_of tree first count) at value
    same =
        ext_get_or 0 (numbers_of new first count) (set (numbers_of tree first count) at value)
        (numbers-length new first levels count after
        ∙ sym (length-set (numbers_of tree first count) at value ∙ numbers-length tree first levels count kept))
        (λ i q.
        let low : i < count = omega (arith, numbers-length new first levels count after) in
        elim (cases_eq i at) [
          | inl e ↦
              number-at new first count i low ∙ leaves (first + i) (omega arith)
              ∙ ap (λ j. slice_index (set tree (first + at) value) (first + j)) e
              ∙ here tree (first + at) value inside
              ∙ sym (ap (λ j. get_or (set (numbers_of tree first count) at value) j 0) e
              ∙ get_or-set_same (numbers_of tree first count) at value 0 (omega (arith, numbers-length tree first levels count kept)))
          | inr ne ↦
              number-at new first count i low ∙ leaves (first + i) (omega arith)
              ∙ other tree (first + at) value (first + i) (λ e. ne (omega (arith, e)))
              ∙ sym (get_or-set_other (numbers_of tree first count) at i value 0 ne ∙ number-at tree first count i low)
        ])
