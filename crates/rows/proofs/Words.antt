use Rattle.std.proofs.Common.{◌≡◌, ◌≢◌, ℕ, ◌+◌, ◌-◌, ◌*◌, ◌/◌, ◌%◌, ◌^◌, ◌<◌, ◌≤◌, List, Bool, true}
use Rattle.std.proofs.Common.{false, cond, true≢false, ◌==◌, length, get_or, set, replicate, min}
use Rattle.std.proofs.Common.{refl, sym, ap, ◌∙◌, zero, suc, arith, inl, inr, slice_index, bit_and, bit_or}
use Rattle.std.specs.Int.{bit_at, bit_not, trailing_zeros, w64}
use Rattle.std.proofs.lemmas.Bool.{cases_eq, cases_lt}
use Rattle.std.proofs.lemmas.List.{ext_get_or, get_or_default, get_or_past, get_or-replicate, get_or-set_other, get_or-set_same, length-replicate}
use Rattle.std.proofs.lemmas.List.{length-set}
use Rattle.std.proofs.lemmas.List.FromFn.{get_or-map-range_with_len, length-map-range_with_len}
use Rattle.std.proofs.lemmas.List.Sums.{count_by-le-length, sum_by-set}
use Rattle.std.proofs.lemmas.Nat.{and_le_l}
use Rattle.std.proofs.lemmas.Nat.Bits.{bit_at-lt, bit_at-trailing_zeros, bit_at-zero, bit_at_and, bit_at_clear_other, bit_at_clear_same}
use Rattle.std.proofs.lemmas.Nat.Bits.{bit_at_mask_below, bit_at_mask_inside, bit_at_set_other, bit_at_set_same, ones_shl}
use Rattle.std.proofs.Math.Bool.{beq}
use Rattle.rows.specs.Flags.{is_set, set_count}
use Rattle.rows.specs.inner.Words.{IsRowOfWords, bit, flags_of}

-- there are so many flags
pub flags-length : (words : List ℕ) (places : ℕ) → length (flags_of words places) ≡ places
flags-length words places = length-map-range_with_len (λ at. bit words at == 1) 0 places

-- the flag at a place of the row
pub flag-below : (words : List ℕ) (places at : ℕ) → at < places → get_or (flags_of words places) at false ≡ (bit words at == 1)
flag-below words places at h = get_or-map-range_with_len (λ q. bit words q == 1) 0 places at at false h (omega arith)

-- the flag at any place
pub flag-at : (words : List ℕ) (places ones at : ℕ) → IsRowOfWords words places ones → get_or (flags_of words places) at false ≡ (bit words at == 1)
flag-at words places ones at whole =
    elim (cases_lt at places) [
      | inl h ↦ flag-below words places at h
      | inr h ↦ get_or_past (flags_of words places) at false (omega (arith, flags-length words places)) ∙ ap (λ b. b == 1) (sym (whole.clean at h))
    ]

pub bit-lt : (words : List ℕ) (at : ℕ) → bit words at < 2
bit-lt words at = bit_at-lt (slice_index words (at / 64)) (at % 64)

-- a bit is 1 or 0
pub unset : (b : ℕ) → b ≡ 0 → (b == 1) ≡ false
unset b e = ap (λ n. n == 1) e

pub set_is : (b : ℕ) → b ≡ 1 → (b == 1) ≡ true
set_is b e = ap (λ n. n == 1) e

pub counts_bit : (b : ℕ) → b < 2 → cond {A = ℕ} (b == 1) 1 0 ≡ b
counts_bit zero h = refl
counts_bit (suc zero) h = refl
counts_bit (suc (suc b)) h = absurd (omega arith)

-- flags with no bit
pub flags-none : (words : List ℕ) (places : ℕ) → ((at : ℕ) → bit words at ≡ 0) → flags_of words places ≡ replicate places false
flags-none words places none =
    ext_get_or false (flags_of words places) (replicate places false) (flags-length words places ∙ sym (length-replicate places false))
    (λ i h.
    let inside : i < places = omega (arith, flags-length words places) in
    flag-below words places i inside ∙ unset (bit words i) (none i) ∙ sym (get_or-replicate places i false false inside))

-- words that are all 0 have no bit
pub no_bit : (n at : ℕ) → bit (replicate {A = ℕ} n 0) at ≡ 0
no_bit n at = ap (λ (w : ℕ). bit_at w (at % 64)) (zero_at n (at / 64)) ∙ bit_at-zero (at % 64)
  where
    zero_at : (n i : ℕ) → get_or {A = ℕ} (replicate n 0) i 0 ≡ 0
    zero_at n i =
        elim (cases_lt i n) [
          | inl h ↦ get_or-replicate n i 0 0 h
          | inr h ↦ get_or_past {X = ℕ} (replicate n 0) i 0 (omega (arith, length-replicate {A = ℕ} n 0))
        ]

count-none : (n : ℕ) → set_count (replicate n false) ≡ 0
count-none zero = refl
count-none (suc n) = count-none n

-- words that are all 0 hold a row with no flag set
pub whole-none : (n places : ℕ) → places ≤ 64 * n → places < 2 ^ 32 → IsRowOfWords (replicate n 0) places 0
whole-none n places long few = record {
  few = few;
  long = omega (arith, length-replicate {A = ℕ} n 0);
  clean = λ at h. no_bit n at;
  counted = sym (ap set_count (flags-none (replicate n 0) places (no_bit n)) ∙ count-none places);
}

-- another word at the place of one
bit-here : (words : List ℕ) (at w : ℕ) → at / 64 < length words → bit (set words (at / 64) w) at ≡ bit_at w (at % 64)
bit-here words at w h = ap (λ v. bit_at v (at % 64)) (get_or-set_same words (at / 64) w 0 h)

bit-other : (words : List ℕ) (at w q : ℕ) → at / 64 < length words →
    ((k : ℕ) → k < 64 → k ≢ at % 64 → bit_at w k ≡ bit_at (slice_index words (at / 64)) k) → q ≢ at →
    bit (set words (at / 64) w) q ≡ bit words q
bit-other words at w q h same ne =
    elim (cases_eq (q / 64) (at / 64)) [
      | inl e ↦
          ap (λ i. bit_at (get_or (set words (at / 64) w) i 0) (q % 64)) e
          ∙ ap (λ v. bit_at v (q % 64)) (get_or-set_same words (at / 64) w 0 h)
          ∙ same (q % 64) (omega arith) (λ r. ne (omega arith))
          ∙ ap (λ i. bit_at (get_or words i 0) (q % 64)) (sym e)
      | inr n ↦ ap (λ v. bit_at v (q % 64)) (get_or-set_other words (at / 64) (q / 64) w 0 n)
    ]

-- what a changed bit makes of the row
pub record IsChanged (words : List ℕ) (places at w ones : ℕ) (value : Bool) : Type 0 where
  pub flags : flags_of (set words (at / 64) w) places ≡ set (flags_of words places) at value
  pub whole : IsRowOfWords (set words (at / 64) w) places ones

pub changed : (words : List ℕ) (places ones at w new : ℕ) (value : Bool) → IsRowOfWords words places ones → at < places →
    ((k : ℕ) → k < 64 → k ≢ at % 64 → bit_at w k ≡ bit_at (slice_index words (at / 64)) k) → (bit_at w (at % 64) == 1) ≡ value →
    new + cond {A = ℕ} (is_set (flags_of words places) at) 1 0 ≡ ones + cond value 1 0 → IsChanged words places at w new value
changed words places ones at w new value whole inside same here count = record {
  flags = made;
  whole = record {
    few = whole.few;
    long = omega (arith, whole.long, length-set words (at / 64) w);
    clean = λ q h. bit-other words at w q within same (λ e. absurd (omega arith)) ∙ whole.clean q h;
    counted = omega (arith, ap set_count made, counted, whole.counted, count);
  };
}
  where
    within : at / 64 < length words
    within = omega (arith, whole.long)

    made : flags_of (set words (at / 64) w) places ≡ set (flags_of words places) at value
    made =
        ext_get_or false (flags_of (set words (at / 64) w) places) (set (flags_of words places) at value)
        (flags-length (set words (at / 64) w) places ∙ sym (length-set (flags_of words places) at value ∙ flags-length words places))
        (λ i h.
        let below : i < places = omega (arith, flags-length (set words (at / 64) w) places) in
        elim (cases_eq i at) [
          | inl e ↦
              flag-below (set words (at / 64) w) places i below
              ∙ ap (λ q. bit (set words (at / 64) w) q == 1) e
              ∙ ap (λ b. b == 1) (bit-here words at w within)
              ∙ here
              ∙ sym (ap (λ q. get_or (set (flags_of words places) at value) q false) e
              ∙ get_or-set_same (flags_of words places) at value false (omega (arith, flags-length words places)))
          | inr ne ↦
              flag-below (set words (at / 64) w) places i below
              ∙ ap (λ b. b == 1) (bit-other words at w i within same ne)
              ∙ sym (get_or-set_other (flags_of words places) at i value false ne ∙ flag-below words places i below)
        ])

    counted : set_count (set (flags_of words places) at value) + cond {A = ℕ} (is_set (flags_of words places) at) 1 0 ≡
        set_count (flags_of words places) + cond value 1 0
    counted = sum_by-set (λ flag. cond flag 1 0) (flags_of words places) at value false (omega (arith, flags-length words places))

-- there is room for one more where a flag isn't set
pub count-lt : (words : List ℕ) (places ones at : ℕ) → IsRowOfWords words places ones → at < places →
    is_set (flags_of words places) at ≡ false → ones < places
count-lt words places ones at whole inside not =
    let flags = flags_of words places in
    let more : set_count (set flags at true) + cond {A = ℕ} (is_set flags at) 1 0 ≡ set_count flags + 1 =
    sum_by-set (λ flag. cond flag 1 0) flags at true false (omega (arith, flags-length words places)) in
    let none : cond {A = ℕ} (is_set flags at) 1 0 ≡ 0 = ap (λ b. cond b 1 0) not in
    let most : set_count (set flags at true) ≤ length (set flags at true) = count_by-le-length (λ flag. flag) (set flags at true) in
    omega (arith, more, none, most, length-set flags at true, flags-length words places, whole.counted)

-- and there is one to take away where it is
pub count-pos : (words : List ℕ) (places ones at : ℕ) → IsRowOfWords words places ones → at < places →
    is_set (flags_of words places) at ≡ true → 0 < ones
count-pos words places ones at whole inside there =
    let flags = flags_of words places in
    let less : set_count (set flags at false) + cond {A = ℕ} (is_set flags at) 1 0 ≡ set_count flags + 0 =
    sum_by-set (λ flag. cond flag 1 0) flags at false false (omega (arith, flags-length words places)) in
    let one : cond {A = ℕ} (is_set flags at) 1 0 ≡ 1 = ap (λ b. cond b 1 0) there in
    omega (arith, less, one, whole.counted)

-- the row once a flag was set
pub set-on : (words : List ℕ) (places ones at word : ℕ) → IsRowOfWords words places ones → at < places → word ≡ get_or words (at / 64) word →
    is_set (flags_of words places) at ≡ false → IsChanged words places at (bit_or word (1 * 2 ^ (at % 64) % 2 ^ 64)) (ones + 1) true
set-on words places ones at word whole inside is not =
    let there : word ≡ slice_index words (at / 64) = is ∙ get_or_default words (at / 64) word 0 (omega (arith, whole.long)) in
    changed words places ones at (bit_or word (1 * 2 ^ (at % 64) % 2 ^ 64)) (ones + 1) true whole inside
    (λ k h ne. bit_at_set_other w64 word (at % 64) (omega arith) k ne ∙ ap (λ w. bit_at w k) there)
    (set_is _ (bit_at_set_same w64 word (at % 64) (omega arith)))
    (let none : cond {A = ℕ} (is_set (flags_of words places) at) 1 0 ≡ 0 = ap (λ b. cond b 1 0) not in omega arith)

-- and once it was taken back
pub set-off : (words : List ℕ) (places ones at word : ℕ) → IsRowOfWords words places ones → at < places → word ≡ get_or words (at / 64) word →
    is_set (flags_of words places) at ≡ true → IsChanged words places at (bit_and word (bit_not w64 (1 * 2 ^ (at % 64) % 2 ^ 64))) (ones - 1) false
set-off words places ones at word whole inside is set =
    let there : word ≡ slice_index words (at / 64) = is ∙ get_or_default words (at / 64) word 0 (omega (arith, whole.long)) in
    changed words places ones at (bit_and word (bit_not w64 (1 * 2 ^ (at % 64) % 2 ^ 64))) (ones - 1) false whole inside
    (λ k h ne. bit_at_clear_other w64 word (at % 64) (omega arith) k h ne ∙ ap (λ w. bit_at w k) there)
    (unset _ (bit_at_clear_same w64 word (at % 64) (omega arith)))
    (let one : cond {A = ℕ} (is_set (flags_of words places) at) 1 0 ≡ 1 = ap (λ b. cond b 1 0) set in
    omega (arith, one, count-pos words places ones at whole inside set))

-- flags that differ, where one of them is known
pub other_off : (a b : Bool) → beq a b ≡ false → b ≡ true → a ≡ false
other_off a true h e = by a h
  where
    by : (a : Bool) → beq a true ≡ false → a ≡ false
    by true h = absurd (true≢false h)
    by false h = refl
other_off a false h e = absurd (true≢false (sym e))

pub other_on : (a b : Bool) → beq a b ≡ false → b ≡ false → a ≡ true
other_on a false h e = by a h
  where
    by : (a : Bool) → beq a false ≡ false → a ≡ true
    by true h = refl
    by false h = absurd (true≢false h)
other_on a true h e = absurd (true≢false e)

-- ---- the lowest bit from one on

-- a word with the bits before one masked off
pub record IsMasked (word from rest : ℕ) : Type 0 where
  pub kept : (k : ℕ) → from ≤ k → k < 64 → bit_at rest k ≡ bit_at word k
  pub gone : (k : ℕ) → k < from → bit_at rest k ≡ 0
  pub fits : rest < 2 ^ 64

pub masked : (word from : ℕ) → from < 64 → word < 2 ^ 64 → IsMasked word from (bit_and word ((2 ^ 64 - 1) * 2 ^ from % 2 ^ 64))
masked word from small fits = record {
  kept = λ k h l.
      at_bit k ∙ ap (λ m. min (bit_at word k) m) (bit_at_mask_inside from 64 k h l)
      ∙ (let below : bit_at word k < 2 = bit_at-lt word k in omega arith);
  gone = λ k h. at_bit k ∙ ap (λ m. min (bit_at word k) m) (bit_at_mask_below from 64 k h) ∙ (omega arith);
  fits = (let less : bit_and word ((2 ^ 64 - 1) * 2 ^ from % 2 ^ 64) ≤ word = and_le_l word ((2 ^ 64 - 1) * 2 ^ from % 2 ^ 64) in omega arith);
}
  where
    at_bit : (k : ℕ) → bit_at (bit_and word ((2 ^ 64 - 1) * 2 ^ from % 2 ^ 64)) k ≡ min (bit_at word k) (bit_at (2 ^ 64 - 2 ^ from) k)
    at_bit k = bit_at_and word ((2 ^ 64 - 1) * 2 ^ from % 2 ^ 64) k ∙ ap (λ m. min (bit_at word k) (bit_at m k)) (ones_shl 64 from (omega arith))

-- what the lowest bit of a masked word is
pub record IsLowest (word from at : ℕ) : Type 0 where
  pub behind : from ≤ at
  pub within : at < 64
  pub set : bit_at word at ≡ 1
  pub first : (k : ℕ) → from ≤ k → k < at → bit_at word k ≡ 0

pub lowest : (word from rest : ℕ) → IsMasked word from rest → 0 < rest → IsLowest word from (trailing_zeros w64 rest)
lowest word from rest masked some =
    let found = bit_at-trailing_zeros w64 rest some masked.fits in
    let at = trailing_zeros w64 rest in
    let one : bit_at rest at ≡ 1 = found.1 in
    let short : at < 64 = found.0 in
    let after : from ≤ at =
    elim (cases_lt at from) [
      | inl h ↦ absurd (let none : bit_at rest at ≡ 0 = masked.gone at h in omega arith)
      | inr h ↦ h
    ] in
    record {
      behind = after;
      within = short;
      set = sym (masked.kept at after short) ∙ one;
      first = λ k h l. sym (masked.kept k h (omega arith)) ∙ found.2 k l;
    }

-- a masked word that is 0 has no bit from there on
pub none_masked : (word from rest : ℕ) → IsMasked word from rest → rest ≡ 0 → (k : ℕ) → from ≤ k → k < 64 → bit_at word k ≡ 0
none_masked word from rest masked none k h l = sym (masked.kept k h l) ∙ ap (λ w. bit_at w k) none ∙ bit_at-zero k
