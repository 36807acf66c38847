-- A tree of sums.
use Rattle.std.proofs.Common.{ℕ, ◌≡◌, ◌+◌, ◌-◌, ◌*◌, ◌/◌, ◌%◌, ◌^◌, ◌<◌, ◌≤◌, List}
use Rattle.std.proofs.Common.{length, take, drop, get_or, replicate, refl, ap, sym, ◌∙◌, arith, zero, suc, inl, inr, slice_index, add-one}
use Rattle.std.specs.List.{sum}
use Rattle.std.proofs.lemmas.Bool.{cases_eq, cases_lt}
use Rattle.std.proofs.lemmas.List.{drop-replicate, get_or-drop, get_or-take, length-drop}
use Rattle.std.proofs.lemmas.List.{length-take, take-replicate, take_all}
use Rattle.rows.specs.Counts.{Finds}
use Rattle.rows.specs.inner.Tree.{IsOnTheWay, IsSummed, IsTree, below, level_at, numbers_of, span}
use Rattle.rows.proofs.Fronts.{front_step, sum_is_small}

-- no level above begins later
pub earlier : (m n : ℕ) → m ≤ n → level_at m ≤ level_at n
earlier zero n h = omega arith
earlier (suc m) zero h = absurd (omega arith)
earlier (suc m) (suc n) h = let before = earlier m n (omega arith) in omega arith

-- a level begins behind as many nodes as there are levels above, or more
pub no-fewer : (n : ℕ) → n ≤ level_at n
no-fewer zero = omega arith
no-fewer (suc n) = let before = no-fewer n in omega arith

-- there are so many numbers
pub numbers-length : (tree : List ℕ) (first levels count : ℕ) → IsTree tree first levels count → length (numbers_of tree first count) ≡ count
numbers-length tree first levels count kept =
    simp (length-take, length-drop) (let long = kept.long in let wide = kept.wide in omega arith)

-- a number is a node of the last level
pub number-at : (tree : List ℕ) (first count at : ℕ) → at < count → get_or (numbers_of tree first count) at 0 ≡ slice_index tree (first + at)
number-at tree first count at h = get_or-take count (drop first tree) at 0 h ∙ get_or-drop first tree at 0

-- the sum of the first numbers
pub front-span : (tree : List ℕ) (first levels count n : ℕ) → IsTree tree first levels count → n ≤ count →
    sum (take n (numbers_of tree first count)) ≡ span tree first n
front-span tree first levels count zero kept h = refl
front-span tree first levels count (suc n) kept h =
    let numbers = numbers_of tree first count in
    let before = front-span tree first levels count n kept (omega arith) in
    let step = front_step numbers n (omega (arith, numbers-length tree first levels count kept)) in
    let next : sum (take (suc n) numbers) ≡ sum (take (n + 1) numbers) = ap (λ m. sum (take m numbers)) (sym (add-one n)) in
    omega (arith, number-at tree first count n h)

-- nodes and those behind them
span-more : (tree : List ℕ) (from a b : ℕ) → span tree from (a + b) ≡ span tree from a + span tree (from + a) b
span-more tree from a zero = let e = ap (span tree from) (let q : a + 0 ≡ a = omega arith in q) in omega arith
span-more tree from a (suc b) =
    let before = span-more tree from a b in
    let more : span tree from (a + suc b) ≡ span tree from (suc (a + b)) =
    ap (span tree from) (let q : a + suc b ≡ suc (a + b) = omega arith in q) in
    let last : slice_index tree (from + (a + b)) ≡ slice_index tree (from + a + b) = ap (slice_index tree) (omega arith) in
    omega arith

-- the sums of two levels, one over the other
pub quarters : (tree : List ℕ) (first from n : ℕ) → IsSummed tree first → from + n ≤ first →
    span tree (4 * from + 1) (4 * n) ≡ span tree from n
quarters tree first from zero summed h = refl
quarters tree first from (suc n) summed h =
    let before = quarters tree first from n summed (omega arith) in
    let here = summed.each (from + n) (omega arith) in
    let count : span tree (4 * from + 1) (4 * suc n) ≡ span tree (4 * from + 1) (suc (suc (suc (suc (4 * n))))) =
    ap (span tree (4 * from + 1)) (let e : 4 * suc n ≡ suc (suc (suc (suc (4 * n)))) = omega arith in e) in
    let one : slice_index tree (4 * from + 1 + 4 * n) ≡ slice_index tree (4 * (from + n) + 1) = ap (slice_index tree) (omega arith) in
    let two : slice_index tree (4 * from + 1 + suc (4 * n)) ≡ slice_index tree (4 * (from + n) + 2) = ap (slice_index tree) (omega arith) in
    let three : slice_index tree (4 * from + 1 + suc (suc (4 * n))) ≡ slice_index tree (4 * (from + n) + 3) = ap (slice_index tree) (omega arith) in
    let four : slice_index tree (4 * from + 1 + suc (suc (suc (4 * n)))) ≡ slice_index tree (4 * (from + n) + 4) =
    ap (slice_index tree) (omega arith) in
    omega arith

-- each level sums up to the first node
pub level-sum : (tree : List ℕ) (levels level : ℕ) → IsSummed tree (level_at levels) → level ≤ levels →
    span tree (level_at level) (3 * level_at level + 1) ≡ slice_index tree 0
level-sum tree levels zero summed h = omega arith
level-sum tree levels (suc level) summed h =
    let over = level-sum tree levels level summed (omega arith) in
    let within : level_at (suc level) ≤ level_at levels = earlier (suc level) levels h in
    let wide : 3 * level_at (suc level) + 1 ≡ 4 * (3 * level_at level + 1) = omega arith in
    ap (span tree (level_at (suc level))) wide
    ∙ quarters tree (level_at levels) (level_at level) (3 * level_at level + 1) summed (omega arith) ∙ over

-- nodes that are 0 add nothing
pub span-past : (tree : List ℕ) (from n : ℕ) → ((i : ℕ) → from + n ≤ i → slice_index tree i ≡ 0) → (m : ℕ) → n ≤ m →
    span tree from m ≡ span tree from n
span-past tree from n past zero h = ap (span tree from) (let e : 0 ≡ n = omega arith in e)
span-past tree from n past (suc m) h =
    elim (cases_lt m n) [
      | inl l ↦ ap (span tree from) (let e : suc m ≡ n = omega arith in e)
      | inr l ↦ (let before = span-past tree from n past m l in let none = past (from + m) (omega arith) in omega arith)
    ]

-- the first node is the sum of all numbers
pub root-sum : (tree : List ℕ) (first levels count : ℕ) → IsTree tree first levels count → slice_index tree 0 ≡ sum (numbers_of tree first count)
root-sum tree first levels count kept =
    let numbers = numbers_of tree first count in
    let whole : span tree first (3 * first + 1) ≡ slice_index tree 0 =
    rw (kept.begins) (level-sum tree levels levels (rw kept.begins at kept.sums) (omega arith)) in
    sym (ap sum (sym (take_all count numbers (omega (arith, numbers-length tree first levels count kept))))
    ∙ front-span tree first levels count count kept (omega arith)
    ∙ sym (span-past tree first count kept.past (3 * first + 1) kept.wide)
    ∙ whole)

-- which of the four below a node another is
one-of-four : (tree : List ℕ) (i : ℕ) → 0 < i → slice_index tree i ≤ below tree ((i - 1) / 4)
one-of-four tree i some =
    let p : ℕ = (i - 1) / 4 in
    elim (cases_eq ((i - 1) % 4) 0) [
      | inl e ↦ (let same : slice_index tree i ≡ slice_index tree (4 * ((i - 1) / 4) + 1) = ap (slice_index tree) (omega arith) in omega arith)
      | inr first-not ↦
          elim (cases_eq ((i - 1) % 4) 1) [
            | inl e ↦ (let same : slice_index tree i ≡ slice_index tree (4 * ((i - 1) / 4) + 2) = ap (slice_index tree) (omega arith) in omega arith)
            | inr neither ↦
                elim (cases_eq ((i - 1) % 4) 2) [
                  | inl e ↦
                      (let same : slice_index tree i ≡ slice_index tree (4 * ((i - 1) / 4) + 3) = ap (slice_index tree) (omega arith) in omega arith)
                  | inr none ↦
                      (let same : slice_index tree i ≡ slice_index tree (4 * ((i - 1) / 4) + 4) = ap (slice_index tree) (omega arith) in omega arith)
                ]
          ]
    ]

-- no node is above the first
below-root : (tree : List ℕ) (first fuel i : ℕ) → IsSummed tree first → i ≤ fuel → i < 4 * first + 1 → slice_index tree i ≤ slice_index tree 0
below-root tree first zero i summed h inside = (let same : slice_index tree i ≡ slice_index tree 0 = ap (slice_index tree) (omega arith) in omega arith)
below-root tree first (suc fuel) i summed h inside =
    elim (cases_lt 0 i) [
      | inl l ↦
          let up = below-root tree first fuel ((i - 1) / 4) summed (omega arith) (omega arith) in
          let here = summed.each ((i - 1) / 4) (omega arith) in
          omega (arith, one-of-four tree i l)
      | inr l ↦ (let same : slice_index tree i ≡ slice_index tree 0 = ap (slice_index tree) (let q : i ≡ 0 = omega arith in q) in omega arith)
    ]

-- each number fits a `u32`
sum-below : (tree : List ℕ) (first levels count : ℕ) → IsTree tree first levels count →
    sum (numbers_of tree first count) ≤ length (numbers_of tree first count) * 4294967295
sum-below tree first levels count kept =
    let long = numbers-length tree first levels count kept in
    sum_is_small (numbers_of tree first count) 4294967295
    (λ i h. let at = number-at tree first count i (omega arith) in let small = kept.small (first + i) (omega arith) in omega arith)

pub sum-few : (tree : List ℕ) (first levels count : ℕ) → IsTree tree first levels count →
    sum (numbers_of tree first count) ≤ 2 ^ 32 * length (numbers_of tree first count)
sum-few tree first levels count kept = let small = sum-below tree first levels count kept in omega arith

-- each node fits with room for one number more
pub node-fits : (tree : List ℕ) (first levels count i : ℕ) → IsTree tree first levels count → i < 4 * first + 1 →
    slice_index tree i + 2 ^ 32 ≤ 2 ^ 64
node-fits tree first levels count i kept inside =
    let all = below-root tree first i i kept.sums (omega arith) inside in
    let long = numbers-length tree first levels count kept in
    let small = sum-below tree first levels count kept in
    let few = kept.few in
    omega (arith, root-sum tree first levels count kept)

-- ---- the way down

pub at-root : (tree : List ℕ) (first levels count k : ℕ) → IsTree tree first levels count → k < sum (numbers_of tree first count) →
    IsOnTheWay tree 0 0 k k
at-root tree first levels count k kept h = record {
  least = omega arith;
  most = omega arith;
  front = omega arith;
  within = omega (arith, root-sum tree first levels count kept);
}

-- a node on the way down stands over four nodes of the tree, and one of these is on the way
pub way-inside : (tree : List ℕ) (first levels count level node rest k : ℕ) → IsTree tree first levels count → level < levels →
    IsOnTheWay tree level node rest k → (node < first) × (rest < span tree (4 * node + 1) 4)
way-inside tree first levels count level node rest k kept h way =
    let low : level_at (suc level) ≤ level_at levels = earlier (suc level) levels h in
    let inside : node < first = omega (arith, way.most, kept.begins) in
    let four : span tree (4 * node + 1) 4 ≡ slice_index tree node =
    (let one = ap (slice_index tree) (let q : 4 * node + 1 + 1 ≡ 4 * node + 2 = omega arith in q) in
    let two = ap (slice_index tree) (let q : 4 * node + 1 + 2 ≡ 4 * node + 3 = omega arith in q) in
    let three = ap (slice_index tree) (let q : 4 * node + 1 + 3 ≡ 4 * node + 4 = omega arith in q) in
    let zeroth = ap (slice_index tree) (let q : 4 * node + 1 + 0 ≡ 4 * node + 1 = omega arith in q) in
    omega (arith, kept.sums.each node inside)) in
    (inside, omega (arith, four, way.within))

pub down : (tree : List ℕ) (first levels count level node rest next left k : ℕ) → IsTree tree first levels count → level < levels →
    IsOnTheWay tree level node rest k → 4 * node + 1 ≤ next → next < 4 * node + 1 + 4 →
    span tree (4 * node + 1) (next - (4 * node + 1)) + left ≡ rest → left < slice_index tree next → IsOnTheWay tree (level + 1) next left k
down tree first levels count level node rest next left k kept h way least most front within =
    let at : ℕ = level_at level in
    let low : level_at (suc level) ≤ level_at levels = earlier (suc level) levels h in
    let over : span tree (4 * at + 1) (4 * (node - at)) ≡ span tree at (node - at) =
    quarters tree first at (node - at) kept.sums (omega (arith, way.most, way.least, kept.begins)) in
    let parts = span-more tree (4 * at + 1) (4 * (node - at)) (next - (4 * node + 1)) in
    let from : span tree (4 * at + 1 + 4 * (node - at)) (next - (4 * node + 1)) ≡ span tree (4 * node + 1) (next - (4 * node + 1)) =
    ap (λ f. span tree f (next - (4 * node + 1))) (let q : 4 * at + 1 + 4 * (node - at) ≡ 4 * node + 1 = omega (arith, way.least) in q) in
    let count : span tree (4 * at + 1) (next - (4 * at + 1)) ≡ span tree (4 * at + 1) (4 * (node - at) + (next - (4 * node + 1))) =
    ap (span tree (4 * at + 1)) (let q : next - (4 * at + 1) ≡ 4 * (node - at) + (next - (4 * node + 1)) = omega (arith, way.least) in q) in
    let step : level + 1 ≡ suc level = add-one level in
    rw step
    (record {
      least = omega (arith, way.least);
      most = omega (arith, way.most);
      front = omega (arith, way.front);
      within = within;
    })

-- the number that is found
pub found : (tree : List ℕ) (first levels count node rest k : ℕ) → IsTree tree first levels count → IsOnTheWay tree levels node rest k →
    Finds (numbers_of tree first count) k (node - first) rest
found tree first levels count node rest k kept way =
    let least : first ≤ node = omega (arith, way.least, kept.begins) in
    let within = way.within in
    let inside : node - first < count =
    elim (cases_lt (node - first) count) [
      | inl h ↦ h
      | inr h ↦ absurd (let none = kept.past node (omega arith) in omega arith)
    ] in
    let at = number-at tree first count (node - first) inside in
    let same : slice_index tree (first + (node - first)) ≡ slice_index tree node =
    ap (slice_index tree) (let e : first + (node - first) ≡ node = omega arith in e) in
    let front : span tree first (node - first) + rest ≡ k = rw kept.begins way.front in
    record {
      front = omega (arith, front-span tree first levels count (node - first) kept (omega arith));
      within = omega arith;
    }

-- a tree of nothing but 0
pub numbers-none : (n from count : ℕ) → from + count ≤ n → take count (drop from (replicate {A = ℕ} n 0)) ≡ replicate count 0
numbers-none n from count h = ap (take count) (drop-replicate from n 0) ∙ take-replicate count (n - from) 0 (omega arith)
