-- Taking the lowest set bits of a word off one by one.
use Rattle.std.proofs.Common.{◌≡◌, ◌≢◌, ℕ, ◌+◌, ◌-◌, ◌/◌, ◌%◌, ◌^◌, ◌<◌, ◌≤◌, min}
use Rattle.std.proofs.Common.{sym, ap, ◌∙◌, zero, suc, arith, inl, inr, bit_and}
use Rattle.std.specs.Int.{bit_at, trailing_zeros, w64}
use Rattle.std.specs.Int.RustNames.{count_ones}
use Rattle.std.proofs.lemmas.Bool.{cases_eq, cases_lt}
use Rattle.std.proofs.lemmas.Nat.{ones_le_self}
use Rattle.std.proofs.lemmas.Nat.Bits.{bit_at-lt, bit_at-suc, bit_at-trailing_zeros, bit_at_and, bit_at_lowest}
use Rattle.rows.specs.inner.Words.{low}
use Rattle.rows.proofs.Words.{IsMasked}
use Rattle.rows.proofs.Counted.{low-step}

-- a word without so many of its lowest set bits: that many fewer are set before each place
pub record LacksFirst (word count rest : ℕ) : Type 0 where
  pub fewer : (n : ℕ) → n ≤ 64 → low rest n ≡ low word n - count

low-zero : (word : ℕ) → low word 0 ≡ 0
low-zero word = ap count_ones (let r : word % 1 ≡ 0 = omega arith in r) ∙ none
  where
    none : count_ones 0 ≡ 0
    none = omega (arith, ones_le_self 0)

low-suc : (word n : ℕ) → low word (suc n) ≡ low word n + bit_at word n
low-suc word n = ap (low word) (let e : suc n ≡ n + 1 = omega arith in e) ∙ low-step word n

low-grows : (word m n : ℕ) → m ≤ n → low word m ≤ low word n
low-grows word m zero h = let e : m ≡ 0 = omega arith in omega (arith, ap (low word) e)
low-grows word m (suc n) h =
    elim (cases_lt n m) [
      | inl l ↦ (let e : m ≡ suc n = omega arith in omega (arith, ap (low word) e))
      | inr l ↦ (let before = low-grows word m n l in let step = low-suc word n in omega arith)
    ]

-- a word with the bits before a place masked off lacks just these
pub masked-first : (word at rest : ℕ) → IsMasked word at rest → LacksFirst word (low word at) rest
masked-first word at rest masked = record { fewer = fewer }
  where
    fewer : (n : ℕ) → n ≤ 64 → low rest n ≡ low word n - low word at
    fewer zero h = let a = low-zero word in let b = low-zero rest in omega arith
    fewer (suc n) h =
        let before = fewer n (omega arith) in
        let a = low-suc word n in
        let b = low-suc rest n in
        elim (cases_lt n at) [
          | inl l ↦
              (let gone : bit_at rest n ≡ 0 = masked.gone n l in
              let most = low-grows word n at (omega arith) in
              let next = low-grows word (suc n) at l in
              omega arith)
          | inr l ↦
              (let kept : bit_at rest n ≡ bit_at word n = masked.kept n l (omega arith) in
              let least = low-grows word at n l in
              omega arith)
        ]

-- one less has the lowest set bit taken off, and the same bits behind it
off-same : (t b : ℕ) → ((i : ℕ) → i < t → bit_at b i ≡ 0) → bit_at b t ≡ 1 → bit_at (b - 1) t ≡ 0
off-same zero b none one =
    let odd : b % 2 ≡ 1 = sym (bit_at_lowest b) ∙ one in
    bit_at_lowest (b - 1) ∙ (let e : (b - 1) % 2 ≡ 0 = omega arith in e)
off-same (suc t) b none one =
    let even : b % 2 ≡ 0 = sym (bit_at_lowest b) ∙ none 0 (omega arith) in
    let half : (b - 1) / 2 ≡ b / 2 - 1 = omega arith in
    bit_at-suc (b - 1) t
    ∙ ap (λ x. bit_at x t) half
    ∙ off-same t (b / 2) (λ i h. sym (bit_at-suc b i) ∙ none (suc i) (omega arith)) (sym (bit_at-suc b t) ∙ one)

off-behind : (t b j : ℕ) → ((i : ℕ) → i < t → bit_at b i ≡ 0) → bit_at b t ≡ 1 → t < j → bit_at (b - 1) j ≡ bit_at b j
off-behind t b zero none one h = absurd (omega arith)
off-behind zero b (suc j) none one h =
    let odd : b % 2 ≡ 1 = sym (bit_at_lowest b) ∙ one in
    let half : (b - 1) / 2 ≡ b / 2 = omega arith in
    bit_at-suc (b - 1) j ∙ ap (λ x. bit_at x j) half ∙ sym (bit_at-suc b j)
off-behind (suc t) b (suc j) none one h =
    let even : b % 2 ≡ 0 = sym (bit_at_lowest b) ∙ none 0 (omega arith) in
    let half : (b - 1) / 2 ≡ b / 2 - 1 = omega arith in
    bit_at-suc (b - 1) j
    ∙ ap (λ x. bit_at x j) half
    ∙ off-behind t (b / 2) j (λ i l. sym (bit_at-suc b i) ∙ none (suc i) (omega arith)) (sym (bit_at-suc b t) ∙ one) (omega arith)
    ∙ sym (bit_at-suc b j)

-- the other set bits stay
pub others-stay : (b j : ℕ) → 0 < b → b < 2 ^ 64 → bit_at b j ≡ 1 → j ≢ trailing_zeros w64 b → bit_at (bit_and b (b - 1)) j ≡ 1
others-stay b j some fits set other =
    let found = bit_at-trailing_zeros w64 b some fits in
    elim (cases_lt j (trailing_zeros w64 b)) [
      | inl l ↦ absurd (let none = found.2 j l in omega arith)
      | inr l ↦
          (let both = bit_at_and b (b - 1) j in
          let same = off-behind (trailing_zeros w64 b) b j found.2 found.1
          (elim (cases_eq j (trailing_zeros w64 b)) [
            | inl e ↦ absurd (other e)
            | inr e ↦ omega arith
          ]) in
          omega arith)
    ]

-- so before each place one bit less is set
one-off : (b t : ℕ) → ((i : ℕ) → i < t → bit_at b i ≡ 0) → bit_at b t ≡ 1 → (n : ℕ) → low (bit_and b (b - 1)) n ≡ low b n - 1
one-off b t none one n =
    elim (cases_lt t n) [
      | inl l ↦
          (let far = past (n - suc t) in
          let e : suc t + (n - suc t) ≡ n = omega arith in
          let a = ap (low b) e in
          let c = ap (low (bit_and b (b - 1))) e in
          omega arith)
      | inr l ↦ (let a = before n l in omega (arith, a.0, a.1))
    ]
  where
    both : (i : ℕ) → bit_at (bit_and b (b - 1)) i ≡ min (bit_at b i) (bit_at (b - 1) i)
    both i = bit_at_and b (b - 1) i

    before : (n : ℕ) → n ≤ t → (low b n ≡ 0) × (low (bit_and b (b - 1)) n ≡ 0)
    before zero h = (low-zero b, low-zero (bit_and b (b - 1)))
    before (suc n) h =
        let less = before n (omega arith) in
        let a = low-suc b n in
        let c = low-suc (bit_and b (b - 1)) n in
        let unset : bit_at b n ≡ 0 = none n h in
        let and = both n in
        (omega (arith, less.0), omega (arith, less.1))

    past : (d : ℕ) → low (bit_and b (b - 1)) (suc t + d) + 1 ≡ low b (suc t + d)
    past zero =
        let less = before t (omega arith) in
        let e : suc t + 0 ≡ suc t = omega arith in
        let a = ap (low b) e ∙ low-suc b t in
        let c = ap (low (bit_and b (b - 1))) e ∙ low-suc (bit_and b (b - 1)) t in
        let and = both t in
        let off = off-same t b none one in
        omega (arith, less.0, less.1)
    past (suc d) =
        let less = past d in
        let e : suc t + suc d ≡ suc (suc t + d) = omega arith in
        let a = ap (low b) e ∙ low-suc b (suc t + d) in
        let c = ap (low (bit_and b (b - 1))) e ∙ low-suc (bit_and b (b - 1)) (suc t + d) in
        let and = both (suc t + d) in
        let same = off-behind t b (suc t + d) none one (omega arith) in
        omega arith

-- there is a bit left
pub some-left : (word count rest : ℕ) → LacksFirst word count rest → count < low word 64 → 0 < rest
some-left word count rest lacks more =
    elim (cases_eq rest 0) [
      | inl none ↦
          (let e : low rest 64 ≡ low 0 64 = ap (λ w. low w 64) none in
          let zeros : low 0 64 ≡ 0 = omega (arith, ones_le_self 0) in
          let left = lacks.fewer 64 (omega arith) in
          absurd (omega arith))
      | inr some ↦ omega arith
    ]

pub lowest-off : (word count rest : ℕ) → LacksFirst word count rest → count < low word 64 → rest < 2 ^ 64 →
    LacksFirst word (count + 1) (bit_and rest (rest - 1))
lowest-off word count rest lacks more fits =
    let found = bit_at-trailing_zeros w64 rest (some-left word count rest lacks more) fits in
    record {
      fewer = λ n h.
          (let off = one-off rest (trailing_zeros w64 rest) found.2 found.1 n in
          let before = lacks.fewer n h in
          omega arith);
    }

-- and the lowest that is left is the one behind so many
pub record IsBehindCount (word count at : ℕ) : Type 0 where
  pub within : at < 64
  pub set : bit_at word at ≡ 1
  pub before : low word at ≡ count

pub lowest-left : (word count rest : ℕ) → LacksFirst word count rest → count < low word 64 → rest < 2 ^ 64 →
    IsBehindCount word count (trailing_zeros w64 rest)
lowest-left word count rest lacks more fits =
    let found = bit_at-trailing_zeros w64 rest (some-left word count rest lacks more) fits in
    let at = trailing_zeros w64 rest in
    let short : at < 64 = found.0 in
    let one : bit_at rest at ≡ 1 = found.1 in
    let none : low rest at ≡ 0 = front at (λ i h. found.2 i h) in
    let here = lacks.fewer at (omega arith) in
    let next = lacks.fewer (suc at) short in
    let a = low-suc rest at in
    let b = low-suc word at in
    let small : bit_at word at < 2 = bit_at-lt word at in
    record { within = short; set = omega arith; before = omega arith }
  where
    front : (n : ℕ) → ((i : ℕ) → i < n → bit_at rest i ≡ 0) → low rest n ≡ 0
    front zero none = low-zero rest
    front (suc n) none =
        let less = front n (λ i h. none i (omega arith)) in
        let last : bit_at rest n ≡ 0 = none n (omega arith) in
        let a = low-suc rest n in
        omega arith
