-- The words of a row, copied over those of another.
use Rattle.std.proofs.Common.{◌≡◌, ℕ, ◌+◌, ◌-◌, ◌/◌, ◌%◌, ◌<◌, ◌≤◌, ◌==◌, List, false, drop, length, get_or, take, sym, ap, ◌∙◌, arith, inl, inr}
use Rattle.std.specs.Int.{bit_at}
use Rattle.std.proofs.lemmas.Bool.{cases_lt}
use Rattle.std.proofs.lemmas.List.{ext_get_or, get_or-append_right, get_or-drop, get_or-take, get_or_append_left, get_or_past}
use Rattle.std.proofs.lemmas.List.{length-append, length-drop, length-take}
use Rattle.rows.specs.Flags.{set_count}
use Rattle.rows.specs.inner.Words.{IsRowOfWords, bit, copied_over, flags_of}
use Rattle.rows.proofs.Words.{flag-below, flags-length}

copied-first : (from to : List ℕ) (i : ℕ) → i < length from → i < length to → get_or (copied_over from to) i 0 ≡ get_or from i 0
copied-first from to i few low =
    get_or_append_left (take (length to) from) (drop (length from) to) 0 i (omega (arith, few, low, length-take (length to) from))
    ∙ get_or-take (length to) from i 0 low

-- so many words were copied, and these are as they were
copied-others : (from to : List ℕ) (i : ℕ) → length from ≤ i → i < length to → get_or (copied_over from to) i 0 ≡ get_or to i 0
copied-others from to i high low =
    let back : length from + (i - length from) ≡ i = omega (arith, high) in
    get_or-append_right (take (length to) from) (drop (length from) to) (length from) i 0 (omega (arith, high, low, length-take (length to) from)) high
    ∙ get_or-drop (length from) to (i - length from) 0 ∙ ap (λ k. get_or to k 0) back

-- as many words of a row as both have, in the place of those of another
pub copied-row : (from to : List ℕ) (places ones others : ℕ) → IsRowOfWords from places ones → IsRowOfWords to places others →
    IsRowOfWords (copied_over from to) places ones × (flags_of (copied_over from to) places ≡ flags_of from places)
copied-row from to places ones others is was =
    let many : length (copied_over from to) ≡ length to =
    omega (arith, length-append (take (length to) from) (drop (length from) to), length-take (length to) from, length-drop (length from) to) in
    let same : (at : ℕ) → at / 64 < length from → at / 64 < length to → bit (copied_over from to) at ≡ bit from at =
    λ at few low. ap (λ w. bit_at w (at % 64)) (copied-first from to (at / 64) few low) in
    let flags : flags_of (copied_over from to) places ≡ flags_of from places =
    ext_get_or false (flags_of (copied_over from to) places) (flags_of from places)
    (flags-length (copied_over from to) places ∙ sym (flags-length from places))
    (λ i h.
    let below : i < places = omega (arith, h, flags-length (copied_over from to) places) in
    flag-below (copied_over from to) places i below ∙ ap (λ b. b == 1) (same i (omega (arith, below, is.long)) (omega (arith, below, was.long)))
    ∙ sym (flag-below from places i below)) in (
      record {
        long = omega (arith, many, was.long);
        clean = λ at h.
            elim (cases_lt (at / 64) (length to)) [
              | inr high ↦
                  ap (λ w. bit_at w (at % 64)) (get_or_past (copied_over from to) (at / 64) 0 (omega (arith, high, many)))
                  ∙ ap (λ w. bit_at w (at % 64)) (sym (get_or_past to (at / 64) 0 high)) ∙ was.clean at h
              | inl low ↦
                  elim (cases_lt (at / 64) (length from)) [
                    | inl few ↦ same at few low ∙ is.clean at h
                    | inr high ↦ ap (λ w. bit_at w (at % 64)) (copied-others from to (at / 64) high low) ∙ was.clean at h
                  ]
            ];
        few = is.few;
        counted = is.counted ∙ ap set_count (sym flags);
      },
      flags,
    )
