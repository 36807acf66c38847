use Rattle.std.proofs.Common.{◌≡◌, ℕ, ◌+◌, ◌-◌, ◌*◌, ◌/◌, ◌%◌, ◌^◌, ◌<◌, ◌≤◌, List}
use Rattle.std.proofs.Common.{false, cond, length, get_or, take}
use Rattle.std.proofs.Common.{refl, sym, ap, ◌∙◌, zero, suc, arith, inl, inr, slice_index, bit_and, add-one}
use Rattle.std.specs.Int.{bit_at}
use Rattle.std.specs.Int.RustNames.{count_ones}
use Rattle.std.proofs.lemmas.Bool.{cases_lt}
use Rattle.std.proofs.lemmas.List.{get_or_past}
use Rattle.std.proofs.lemmas.List.{take_all}
use Rattle.std.proofs.lemmas.List.Sums.{sum_by_more}
use Rattle.std.proofs.lemmas.Nat.{and_mask, mod-pow-add, mod_below, one_shl, ones_cat, ones_le_self, pow_pos, zero_from_ones}
use Rattle.std.proofs.Math.Nat.{mod-eq_of_lt}
use Rattle.std.proofs.lemmas.Nat.Bits.{bit_at-lt, bit_at-zero}
use Rattle.rows.specs.Flags.{IsFirstFrom, IsKth, NoneFrom, set_count}
use Rattle.rows.specs.inner.Words.{IsRowOfWords, below, bit, flags_of, low}
use Rattle.rows.proofs.Words.{bit-lt, counts_bit, flag-at, flag-below, flags-length, set_is, unset}

-- the next bit of a word
pub low-step : (word n : ℕ) → low word (n + 1) ≡ low word n + bit_at word n
low-step word n =
    ap (λ m. count_ones (word % 2 ^ m)) (swap n)
    ∙ ap count_ones (mod-pow-add word 1 n)
    ∙ ones_cat n (word / 2 ^ n % 2 ^ 1) (word % 2 ^ n) (mod_lt word n)
    ∙ one_bit (bit_at word n) (low word n) (bit_at-lt word n)
  where
    swap : (n : ℕ) → n + 1 ≡ 1 + n
    swap n = omega arith

    mod_lt : (word n : ℕ) → word % 2 ^ n < 2 ^ n
    mod_lt word n = mod_below word (2 ^ n) (pow_pos n)

    not_none : count_ones 1 ≡ 0 → ⊥
    not_none e = let f : ◌≡◌ {A = ℕ} 1 0 = zero_from_ones 1 e in omega arith

    one_bit : (b m : ℕ) → b < 2 → count_ones b + m ≡ m + b
    one_bit zero m h = omega (arith, ones_le_self 0)
    one_bit (suc zero) m h = omega (arith, ones_le_self 1, not_none)
    one_bit (suc (suc b)) m h = absurd (omega arith)

-- the bits of a word from one on
pub low-add : (word a b : ℕ) → low word (a + b) ≡ low word a + count_ones (word / 2 ^ a % 2 ^ b)
low-add word a b =
    ap (λ m. count_ones (word % 2 ^ m)) (swap a b)
    ∙ ap count_ones (mod-pow-add word b a)
    ∙ ones_cat a (word / 2 ^ a % 2 ^ b) (word % 2 ^ a) (mod_below word (2 ^ a) (pow_pos a))
    ∙ swap (count_ones (word / 2 ^ a % 2 ^ b)) (low word a)
  where
    swap : (m n : ℕ) → m + n ≡ n + m
    swap m n = omega arith

-- a whole word
pub low-whole : (word : ℕ) → word < 2 ^ 64 → low word 64 ≡ count_ones word
low-whole word fits = ap count_ones (mod-eq_of_lt fits)

-- the bits of one word are those of the row from its place on
pub below-word : (words : List ℕ) (i j : ℕ) → j ≤ 64 → below words (64 * i + j) ≡ below words (64 * i) + low (slice_index words i) j
below-word words i zero h =
    ap (below words) (let e : 64 * i + 0 ≡ 64 * i = omega arith in e)
    ∙ (let e : low (slice_index words i) 0 ≡ 0 = ap count_ones (let r : slice_index words i % 1 ≡ 0 = omega arith in r) ∙ none in omega arith)
  where
    none : count_ones 0 ≡ 0
    none = omega (arith, ones_le_self 0)
below-word words i (suc j) h =
    let before = below-word words i j (omega arith) in
    let place : (64 * i + j) / 64 ≡ i = omega arith in
    let inside : (64 * i + j) % 64 ≡ j = omega arith in
    let b : bit words (64 * i + j) ≡ bit_at (slice_index words i) j = (λ k. bit_at (slice_index words (place k)) (inside k)) in
    let step : low (slice_index words i) (suc j) ≡ low (slice_index words i) j + bit_at (slice_index words i) j =
    ap (low (slice_index words i)) (let e : suc j ≡ j + 1 = omega arith in e) ∙ low-step (slice_index words i) j in
    let next : below words (64 * i + suc j) ≡ below words (64 * i + j) + bit words (64 * i + j) =
    ap (below words) (let e : 64 * i + suc j ≡ suc (64 * i + j) = omega arith in e) in
    omega arith

-- more places have no fewer bits set
pub below-grows : (words : List ℕ) (m n : ℕ) → m ≤ n → below words m ≤ below words n
below-grows words m zero h = let e : m ≡ 0 = omega arith in omega (arith, ap (below words) e)
below-grows words m (suc n) h =
    elim (cases_lt n m) [
      | inl l ↦ (let e : m ≡ suc n = omega arith in omega (arith, ap (below words) e))
      | inr l ↦ (let before = below-grows words m n l in omega arith)
    ]

-- the bits before a place are the flags before it
pub count-below : (words : List ℕ) (places n : ℕ) → n ≤ places → set_count (take n (flags_of words places)) ≡ below words n
count-below words places zero h = refl
count-below words places (suc n) h =
    let flags = flags_of words places in
    let before = count-below words places n (omega arith) in
    let step : set_count (take (n + 1) flags) ≡ set_count (take n flags) + cond {A = ℕ} (get_or flags n false) 1 0 =
    sum_by_more (λ flag. cond flag 1 0) flags n false (omega (arith, flags-length words places)) in
    let here : cond {A = ℕ} (get_or flags n false) 1 0 ≡ bit words n =
    ap (λ b. cond b 1 0) (flag-below words places n (omega arith)) ∙ counts_bit (bit words n) (bit-lt words n) in
    let next : set_count (take (suc n) flags) ≡ set_count (take (n + 1) flags) = ap (λ m. set_count (take m flags)) (sym (add-one n)) in
    omega arith

pub count-all : (words : List ℕ) (places : ℕ) → set_count (flags_of words places) ≡ below words places
count-all words places =
    ap set_count (sym (take_all places (flags_of words places) (omega (arith, flags-length words places)))) ∙ count-below words places places (omega arith)

-- the bits that are counted to halve a word
pub low-half : (word at half : ℕ) → half < 64 → low word (at + half) ≡ low word at + count_ones (bit_and (word / 2 ^ at) (1 * 2 ^ half % 2 ^ 64 - 1))
low-half word at half h =
    low-add word at half
    ∙ ap (λ b. low word at + count_ones b)
    (sym (ap (λ m. bit_and (word / 2 ^ at) (m - 1)) (one_shl half 64 h) ∙ and_mask (word / 2 ^ at) half))

-- ---- places in the row

-- a bit that is set stands in the row
pub bit-inside : (words : List ℕ) (places ones at : ℕ) → IsRowOfWords words places ones → bit words at ≡ 1 → at < places
bit-inside words places ones at whole one =
    elim (cases_lt at places) [
      | inl h ↦ h
      | inr h ↦ absurd (let none = whole.clean at h in omega arith)
    ]

pub bit-of : (words : List ℕ) (i b : ℕ) → b < 64 → bit words (64 * i + b) ≡ bit_at (slice_index words i) b
bit-of words i b h =
    let place : (64 * i + b) / 64 ≡ i = omega arith in
    let inside : (64 * i + b) % 64 ≡ b = omega arith in
    λ k. bit_at (slice_index words (place k)) (inside k)

-- no bit in the rest of a word
pub none-more : (words : List ℕ) (at i from : ℕ) → ((q : ℕ) → at ≤ q → q < 64 * i + from → bit words q ≡ 0) →
    ((k : ℕ) → from ≤ k → k < 64 → bit_at (slice_index words i) k ≡ 0) → (q : ℕ) → at ≤ q → q < 64 * (i + 1) + 0 → bit words q ≡ 0
none-more words at i from before here q h l =
    elim (cases_lt q (64 * i + from)) [
      | inl b ↦ before q h b
      | inr b ↦
          ap (bit words) (let e : q ≡ 64 * i + (q - 64 * i) = omega arith in e)
          ∙ bit-of words i (q - 64 * i) (omega arith)
          ∙ here (q - 64 * i) (omega arith) (omega arith)
    ]

-- no bit beyond the words
pub none-left : (words : List ℕ) (places ones at i from : ℕ) → IsRowOfWords words places ones → length words ≤ i →
    ((q : ℕ) → at ≤ q → q < 64 * i + from → bit words q ≡ 0) → NoneFrom (flags_of words places) at
none-left words places ones at i from whole past before = record {
  none = λ q h. flag-at words places ones q whole ∙ unset (bit words q) (at_bit q h);
}
  where
    at_bit : (q : ℕ) → at ≤ q → bit words q ≡ 0
    at_bit q h =
        elim (cases_lt q (64 * i)) [
          | inl b ↦ before q h (omega arith)
          | inr b ↦ ap (λ (w : ℕ). bit_at w (q % 64)) (get_or_past words (q / 64) 0 (omega arith)) ∙ bit_at-zero (q % 64)
        ]

pub first-found : (words : List ℕ) (places ones at i from b : ℕ) → IsRowOfWords words places ones → at ≤ 64 * i + from →
    ((q : ℕ) → at ≤ q → q < 64 * i + from → bit words q ≡ 0) → from ≤ b → b < 64 → bit_at (slice_index words i) b ≡ 1 →
    ((k : ℕ) → from ≤ k → k < b → bit_at (slice_index words i) k ≡ 0) → IsFirstFrom (flags_of words places) at (64 * i + b)
first-found words places ones at i from b whole near before behind within one first = record {
  behind = omega arith;
  set = flag-at words places ones (64 * i + b) whole ∙ set_is (bit words (64 * i + b)) (bit-of words i b within ∙ one);
  first = λ q h l. flag-at words places ones q whole ∙ unset (bit words q) (none q h l);
}
  where
    none : (q : ℕ) → at ≤ q → q < 64 * i + b → bit words q ≡ 0
    none q h l =
        elim (cases_lt q (64 * i + from)) [
          | inl c ↦ before q h c
          | inr c ↦
              ap (bit words) (let e : q ≡ 64 * i + (q - 64 * i) = omega arith in e)
              ∙ bit-of words i (q - 64 * i) (omega arith)
              ∙ first (q - 64 * i) (omega arith) (omega arith)
        ]

-- there is no k-th flag that is set
pub none-kth : (words : List ℕ) (places ones i left k : ℕ) → IsRowOfWords words places ones → below words (64 * i) + left ≡ k → length words ≤ i →
    k < set_count (flags_of words places) → ⊥
none-kth words places ones i left k whole placed past few =
    let grows = below-grows words places (64 * i) (let long = whole.long in omega arith) in
    omega (arith, count-all words places)

-- the next word
pub word-next : (words : List ℕ) (i : ℕ) → slice_index words i < 2 ^ 64 →
    below words (64 * (i + 1)) ≡ below words (64 * i) + count_ones (slice_index words i)
word-next words i fits =
    ap (below words) (let e : 64 * (i + 1) ≡ 64 * i + 64 = omega arith in e)
    ∙ below-word words i 64 (omega arith)
    ∙ ap (λ n. below words (64 * i) + n) (low-whole (slice_index words i) fits)

pub kth-found : (words : List ℕ) (places ones i b left k : ℕ) → IsRowOfWords words places ones → below words (64 * i) + left ≡ k →
    b < 64 → bit_at (slice_index words i) b ≡ 1 → low (slice_index words i) b ≡ left → IsKth (flags_of words places) k (64 * i + b)
kth-found words places ones i b left k whole placed within one before =
    let here : bit words (64 * i + b) ≡ 1 = bit-of words i b within ∙ one in
    let inside : 64 * i + b < places = bit-inside words places ones (64 * i + b) whole here in
    record {
      set = flag-at words places ones (64 * i + b) whole ∙ set_is (bit words (64 * i + b)) here;
      before =
          count-below words places (64 * i + b) (omega arith)
          ∙ below-word words i b (omega arith)
          ∙ (let e : below words (64 * i) + low (slice_index words i) b ≡ k = omega arith in e);
    }

pub kth-few : (words : List ℕ) (places ones i b left k : ℕ) → IsRowOfWords words places ones → below words (64 * i) + left ≡ k →
    b < 64 → bit_at (slice_index words i) b ≡ 1 → low (slice_index words i) b ≡ left → k < set_count (flags_of words places)
kth-few words places ones i b left k whole placed within one before =
    let here : bit words (64 * i + b) ≡ 1 = bit-of words i b within ∙ one in
    let inside : 64 * i + b < places = bit-inside words places ones (64 * i + b) whole here in
    let grows : below words (suc (64 * i + b)) ≤ below words places = below-grows words (suc (64 * i + b)) places inside in
    omega (arith, below-word words i b (omega arith), count-all words places)

-- a found place fits a `u32`
pub place-fits : (words : List ℕ) (places ones i b : ℕ) → IsRowOfWords words places ones → b < 64 → bit_at (slice_index words i) b ≡ 1 →
    64 * i + b < 2 ^ 32
place-fits words places ones i b whole within one =
    let inside : 64 * i + b < places = bit-inside words places ones (64 * i + b) whole (bit-of words i b within ∙ one) in
    omega (arith, whole.few)
