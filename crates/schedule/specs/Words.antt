-- The words of the dice: those of the PCG generator XSH RR 64/32.
use Rattle.std.specs.Prelude.{ℕ}
use Rattle.rand_pcg.specs.Lcg.{Lcg, started, increment_of, advance}
use Rattle.rand_pcg.specs.Pcg.{multiplier_64, output_xsh_rr}

-- the generator that starts from a seed, on one of the streams
abbrev pub dice : ℕ → ℕ → Lcg
dice seed stream = started 64 multiplier_64 seed (increment_of 64 stream)

-- the generator after so many words
abbrev pub dice_after : ℕ → ℕ → ℕ → Lcg
dice_after seed stream words = advance 64 multiplier_64 words (dice seed stream)

-- the word that a generator gives next
abbrev pub word_of : Lcg → ℕ
word_of generator = output_xsh_rr generator.state

-- a word, counted from 0
abbrev pub word : ℕ → ℕ → ℕ → ℕ
word seed stream k = word_of (dice_after seed stream k)
