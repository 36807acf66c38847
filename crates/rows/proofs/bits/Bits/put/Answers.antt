use Rattle.std.proofs.Common.{◌≡◌, ◌<◌, ◌≤◌, ◌^◌, ◌∙◌, ℕ, List, [], ◌∷◌, Bool, Some, length, slice_get, slice_index, ap, sym, arith, bit_and}
use Rattle.std.proofs.lemmas.Grind.{common_steps}
use Rattle.std.specs.Int.{bit_at, bit_not, w64}
use Rattle.std.specs.Option.{option_copied}
use Rattle.std.proofs.lemmas.Nat.{and_le_l, and_le_r, or_lt}
use Rattle.rows.specs.inner.Words.{IsRowOfWords, flags_of}
use Rattle.rows.proofs.Put.{IsPut, put-row, put_in}
use Rattle.rows.proofs.Words.{flags-length}
use Rattle.rows.proofs.bits.Bits.put.Goals as goal

some : (words : List ℕ) (word : ℕ) → slice_get words 0 ≡ Some word → 0 < length words
some [] word e = absurd (cc e)
some (w ∷ words) word e = omega arith

first : (words : List ℕ) (word : ℕ) → slice_get words 0 ≡ Some word → word ≡ slice_index words 0
first [] word e = absurd (cc e)
first (w ∷ words) word e = cc e

made : (words : List ℕ) (flags : List Bool) (places ones at told word : ℕ) → flags_of words places ≡ flags → IsRowOfWords words places ones →
    length flags ≤ 64 → slice_get words 0 ≡ Some word → told < 2 ^ 64 → at < 2 ^ 64 →
    ((k : ℕ) → bit_at at k ≡ 1 → k < length flags) → IsPut words places ones at told (put_in word at told)
made words flags places ones at told word view whole few is fits low inside =
    let many : length flags ≡ places = ap length (sym view) ∙ flags-length words places in
    put-row words places ones at told word whole (some words word is) (omega (arith, few, many))
    (first words word is) low
    (or_lt 64 (bit_and word (bit_not w64 at)) (bit_and told at)
    (let less = and_le_r word (bit_not w64 at) in
    let most : bit_not w64 at < 2 ^ 64 = omega (arith, low) in
    omega (arith, less, most))
    (let less = and_le_l told at in omega (arith, less, fits)))
    (λ k e. let l = inside k e in omega (arith, l, many))

pub invariant_of-self : goal.invariant_of-self
invariant_of-self c =
    (made c.self.inside.words.items c.args.self.now c.self.inside.places c.self.inside.ones c.args.places c.args.told c.in-Some.first.now
    c.self.view_is c.self.invariant c.requires.few
    (ap (λ ws. slice_get ws 0) (sym c.deref.ensures.value) ∙ sym c.first.ensures.value ∙ ap option_copied c.in-Some.is)
    c.ranges.told.fits c.ranges.places.fits c.requires.inside).whole

pub returns : goal.returns
returns c = record {
  long = grind (arith, common_steps);
  each =
      rw (← c.self.view_is)
      (made c.self.inside.words.items c.args.self.now c.self.inside.places c.self.inside.ones c.args.places c.args.told c.in-Some.first.now
      c.self.view_is c.self.invariant c.requires.few
      (ap (λ ws. slice_get ws 0) (sym c.deref.ensures.value) ∙ sym c.first.ensures.value ∙ ap option_copied c.in-Some.is)
      c.ranges.told.fits c.ranges.places.fits c.requires.inside).each;
}
