-- Flags of a row of one word, of which some are made as told.
use Rattle.std.proofs.Common.{◌≡◌, ℕ, ◌+◌, ◌-◌, ◌*◌, ◌/◌, ◌%◌, ◌^◌, ◌<◌, ◌≤◌, List, Bool, true, false, if◌then◌else◌, ◌==◌}
use Rattle.std.proofs.Common.{length, get_or, set, max, min, refl, sym, ap, ◌∙◌, zero, suc, arith, inl, inr, slice_index, bit_and, bit_or}
use Rattle.std.specs.Int.{bit_at, bit_not, w64}
use Rattle.std.specs.Int.RustNames.{count_ones}
use Rattle.std.proofs.lemmas.Bool.{cases_eq, cases_lt}
use Rattle.std.proofs.lemmas.List.{get_or-set_other, get_or-set_same, length-set}
use Rattle.std.proofs.lemmas.Nat.Bits.{bit_at-lt, bit_at_and, bit_at_not, bit_at_or}
use Rattle.rows.specs.Flags.{is_set}
use Rattle.rows.specs.inner.Words.{IsRowOfWords, below, bit, flags_of}
use Rattle.rows.proofs.Counted.{count-all, word-next}
use Rattle.rows.proofs.Words.{flag-at}

-- the word with bits as told at some places
abbrev pub put_in : ℕ → ℕ → ℕ → ℕ
put_in word places told = bit_or (bit_and word (bit_not w64 places)) (bit_and told places)

bit-put : (word places told k : ℕ) → places < 2 ^ 64 → k < 64 →
    bit_at (put_in word places told) k ≡ (if bit_at places k == 1 then bit_at told k else bit_at word k)
bit-put word places told k fits h =
    bit_at_or (bit_and word (bit_not w64 places)) (bit_and told places) k
    ∙ ap (λ n. max n (bit_at (bit_and told places) k)) (bit_at_and word (bit_not w64 places) k ∙ ap (min (bit_at word k)) (bit_at_not w64 places k fits h))
    ∙ ap (max (min (bit_at word k) (1 - bit_at places k))) (bit_at_and told places k)
    ∙ pick (bit_at places k) (bit_at word k) (bit_at told k) (bit_at-lt places k) (bit_at-lt word k) (bit_at-lt told k)
  where
    pick : (p w t : ℕ) → p < 2 → w < 2 → t < 2 → max (min w (1 - p)) (min t p) ≡ (if p == 1 then t else w)
    pick zero w t a b c = omega arith
    pick (suc zero) w t a b c = omega arith
    pick (suc (suc p)) w t a b c = absurd (omega arith)

-- a bit of the first word, and of the others
bit-first : (words : List ℕ) (w k : ℕ) → 0 < length words → k < 64 → bit (set words 0 w) k ≡ bit_at w k
bit-first words w k some h =
    let place : k / 64 ≡ 0 = omega arith in
    let inside : k % 64 ≡ k = omega arith in
    ap (λ i. bit_at (get_or (set words 0 w) i 0) (k % 64)) place
    ∙ ap (λ v. bit_at v (k % 64)) (get_or-set_same words 0 w 0 some)
    ∙ ap (bit_at w) inside

bit-behind : (words : List ℕ) (w k : ℕ) → 64 ≤ k → bit (set words 0 w) k ≡ bit words k
bit-behind words w k h =
    ap (λ v. bit_at v (k % 64)) (get_or-set_other words 0 (k / 64) w 0 (λ e. absurd (let far : 1 ≤ k / 64 = omega arith in omega arith)))

-- bits behind the last that is set count nothing
below-clean : (words : List ℕ) (places n : ℕ) → ((at : ℕ) → places ≤ at → bit words at ≡ 0) → below words (places + n) ≡ below words places
below-clean words places zero clean = ap (below words) (let e : places + 0 ≡ places = omega arith in e)
below-clean words places (suc n) clean =
    let before = below-clean words places n clean in
    let none : bit words (places + n) ≡ 0 = clean (places + n) (omega arith) in
    let step : below words (places + suc n) ≡ below words (places + n) + bit words (places + n) =
    ap (below words) (let e : places + suc n ≡ suc (places + n) = omega arith in e) in
    omega arith

-- what comes of the row
pub record IsPut (words : List ℕ) (places ones at told w : ℕ) : Type 0 where
  pub whole : IsRowOfWords (set words 0 w) places (count_ones w)
  pub each : (k : ℕ) → is_set (flags_of (set words 0 w) places) k ≡ (if bit_at at k == 1 then bit_at told k == 1 else is_set (flags_of words places) k)

pub put-row : (words : List ℕ) (places ones at told word : ℕ) → IsRowOfWords words places ones → 0 < length words → places ≤ 64 →
    word ≡ slice_index words 0 → at < 2 ^ 64 → put_in word at told < 2 ^ 64 → ((k : ℕ) → bit_at at k ≡ 1 → k < places) →
    IsPut words places ones at told (put_in word at told)
put-row words places ones at told word whole some few is fits small inside = record {
  whole = row;
  each = λ k.
      flag-at (set words 0 w) places (count_ones w) k row
      ∙ elim (cases_lt k 64) [
        | inl h ↦ ap (λ b. b == 1) (there k h) ∙ told-or (bit_at at k == 1) (bit_at told k) (bit words k)
            ∙ ap (λ f. if bit_at at k == 1 then bit_at told k == 1 else f) (sym (flag-at words places ones k whole))
        | inr h ↦ ap (λ b. b == 1) (bit-behind words w k h)
            ∙ sym (ap (λ (b : ℕ). if b == 1 then bit_at told k == 1 else is_set (flags_of words places) k) (none k (omega (arith, h, few)))
            ∙ flag-at words places ones k whole)
      ];
}
  where
    w : ℕ
    w = put_in word at told

    none : (k : ℕ) → places ≤ k → bit_at at k ≡ 0
    none k h =
        elim (cases_eq (bit_at at k) 1) [
          | inl e ↦ absurd (let low = inside k e in omega (arith, low, h))
          | inr ne ↦ (let b = bit_at-lt at k in omega (arith, b, ne))
        ]

    told-or : (p : Bool) (t f : ℕ) → ((if p then t else f) == 1) ≡ (if p then t == 1 else f == 1)
    told-or true t f = refl
    told-or false t f = refl

    word-bit : (k : ℕ) → k < 64 → bit_at word k ≡ bit words k
    word-bit k h =
        ap (λ v. bit_at v k) is
        ∙ sym (ap (λ i. bit_at (slice_index words i) (k % 64)) (let e : k / 64 ≡ 0 = omega arith in e)
        ∙ ap (bit_at (slice_index words 0)) (let e : k % 64 ≡ k = omega arith in e))

    there : (k : ℕ) → k < 64 → bit (set words 0 w) k ≡ (if bit_at at k == 1 then bit_at told k else bit words k)
    there k h =
        bit-first words w k some h ∙ bit-put word at told k fits h
        ∙ ap (λ b. if bit_at at k == 1 then bit_at told k else b) (word-bit k h)

    clean : (k : ℕ) → places ≤ k → bit (set words 0 w) k ≡ 0
    clean k h =
        elim (cases_lt k 64) [
          | inl l ↦ there k l ∙ ap (λ (b : ℕ). if b == 1 then bit_at told k else bit words k) (none k h) ∙ whole.clean k h
          | inr l ↦ bit-behind words w k l ∙ whole.clean k h
        ]

    first : slice_index (set words 0 w) 0 ≡ w
    first = get_or-set_same words 0 w 0 some

    counted : below (set words 0 w) places ≡ count_ones w
    counted =
        sym (below-clean (set words 0 w) places (64 - places) clean)
        ∙ ap (below (set words 0 w)) (let e : places + (64 - places) ≡ 64 * (0 + 1) = omega (arith, few) in e)
        ∙ (let next = word-next (set words 0 w) 0 (let e = first in omega (arith, e, small)) in
        let none : below (set words 0 w) (64 * 0) ≡ 0 = ap (below (set words 0 w)) (let e : 64 * 0 ≡ 0 = omega arith in e) in
        let same : count_ones (slice_index (set words 0 w) 0) ≡ count_ones w = ap count_ones first in
        omega (arith, next, none, same))

    row : IsRowOfWords (set words 0 w) places (count_ones w)
    row = record {
      few = whole.few;
      long = omega (arith, whole.long, length-set words 0 w);
      clean = clean;
      counted = sym (count-all (set words 0 w) places ∙ counted);
    }
