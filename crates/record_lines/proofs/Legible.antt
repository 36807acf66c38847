-- Words of a line: short, and with no blank and no end of a line in them. So a line's words are found in its bytes again.
use Rattle.std.proofs.Common.{◌≡◌, ◌≢◌, ◌≤◌, ◌<◌, ◌+◌, ◌*◌, ◌%◌, ◌^◌, ℕ, Bool, true, false, cond, leb, ltb, ◌&&◌, eqb, List, [], ◌∷◌, ◌++◌, length, refl, ap}
use Rattle.std.proofs.Common.{◌∙◌, arith, length-append, append-nil}
use Rattle.std.specs.List.{All, AllByRecursion, list_all}
use Rattle.std.specs.Fmt.{decimal}
use Rattle.std.proofs.lemmas.Bool.Decides.{nat_tests}
use Rattle.std.proofs.lemmas.Fmt.{decimal_by_steps, length-decimal-le}
use Rattle.std.proofs.lemmas.List.Elements.{All-from_recursion}
use Rattle.std.proofs.lemmas.List.Splits.{slice_split_at, slice_split_none}
use Rattle.base.specs.Spelling.{is_name}
use Rattle.base.specs.Words.{words, spaced, joined}
use Rattle.record_lines.specs.Refused.{HasNoEnd}

-- a word has at most 20 bytes, and each stands behind the blank
pub record IsWord (word : List ℕ) : Type 0 where
  pub dark : AllByRecursion (λ b. 32 < b) word
  pub short : length word ≤ 20

-- a line has some words, and at most 65,700
pub record IsLine (parts : List (List ℕ)) : Type 0 where
  pub each : AllByRecursion IsWord parts
  pub some : 0 < length parts
  pub few : length parts ≤ 65700

pub all-append : {X : Type 0} (P : X → Type 0) (xs ys : List X) → AllByRecursion P xs → AllByRecursion P ys → AllByRecursion P (xs ++ ys)
all-append P [] ys h k = k
all-append P (x ∷ xs) ys h k = (h.0, all-append P xs ys h.1 k)

-- ---- which words there are

abbrev pub all_dark : List ℕ → Bool
all_dark [] = true
all_dark (b ∷ bs) = cond (ltb 32 b) (all_dark bs) false

dark-of : (bs : List ℕ) → all_dark bs ≡ true → AllByRecursion (λ b. 32 < b) bs
dark-of [] e = tt
dark-of (b ∷ bs) e =
    let low : 32 < b = grind (arith, nat_tests, e) in
    let rest : all_dark bs ≡ true = grind (arith, nat_tests, e) in
    (low, dark-of bs rest)

-- a text that is known
pub text-word : (w : List ℕ) → all_dark w ≡ true → length w ≤ 20 → IsWord w
text-word w dark short = record { dark = dark-of w dark; short = short }

both-true : (a b : Bool) → (a && b) ≡ true → (a ≡ true) × (b ≡ true)
both-true true b e = (refl, e)
both-true false b e = absurd (cc)

named-dark : (bs : List ℕ) → list_all (λ b. ltb 32 b) bs ≡ true → AllByRecursion (λ b. 32 < b) bs
named-dark [] e = tt
named-dark (b ∷ bs) e = let both = both-true (ltb 32 b) (list_all (λ c. ltb 32 c) bs) e in (grind (arith, nat_tests, both.0), named-dark bs both.1)

-- a name
pub name-word : (w : List ℕ) → is_name w ≡ true → IsWord w
name-word w e =
    let both = both-true (leb (length w) 13) (list_all (λ b. ltb 32 b) w) e in
    record { dark = named-dark w both.1; short = grind (arith, nat_tests, both.0) }

-- a number
pub number-word : (n : ℕ) → n < 2 ^ 64 → IsWord (decimal n)
number-word n low = record {
  dark =
      decimal_by_steps (λ k ds. AllByRecursion (λ b. 32 < b) ds) (λ k h. (omega arith, tt))
      (λ k ds h more. all-append (λ b. 32 < b) ds ((48 + k % 10) ∷ []) more (omega arith, tt)) n low;
  short = length-decimal-le 20 n (omega arith) (omega (arith, low)) low;
}

-- ---- lines are short

spaced-short : (ws : List (List ℕ)) → AllByRecursion IsWord ws → length (spaced ws) ≤ 21 * length ws
spaced-short [] h = omega arith
spaced-short (w ∷ ws) h = omega (arith, length-append w (spaced ws), h.0.short, spaced-short ws h.1)

pub joined-short : (ws : List (List ℕ)) → IsLine ws → length (joined ws) ≤ 21 * length ws
joined-short [] h = omega arith
joined-short (w ∷ ws) h = omega (arith, length-append w (spaced ws), h.each.0.short, spaced-short ws h.each.1)

-- ---- no line ends within its words

dark-open : (w : List ℕ) → AllByRecursion (λ b. 32 < b) w → AllByRecursion (λ b. b ≢ 10) w
dark-open [] h = tt
dark-open (b ∷ bs) h = (λ e. absurd (omega (arith, e, h.0)), dark-open bs h.1)

spaced-open : (ws : List (List ℕ)) → AllByRecursion IsWord ws → AllByRecursion (λ b. b ≢ 10) (spaced ws)
spaced-open [] h = tt
spaced-open (w ∷ ws) h = (λ e. absurd (omega (arith, e)), all-append (λ b. b ≢ 10) w (spaced ws) (dark-open w h.0.dark) (spaced-open ws h.1))

joined-all_open : (ws : List (List ℕ)) → AllByRecursion IsWord ws → AllByRecursion (λ b. b ≢ 10) (joined ws)
joined-all_open [] h = tt
joined-all_open (w ∷ ws) h = all-append (λ b. b ≢ 10) w (spaced ws) (dark-open w h.0.dark) (spaced-open ws h.1)

pub joined-open : (ws : List (List ℕ)) → IsLine ws → HasNoEnd (joined ws)
joined-open ws h = All-from_recursion (λ b. b ≢ 10) (joined ws) (joined-all_open ws h.each)

-- ---- the words of a line are found again

dark-word : (w : List ℕ) → AllByRecursion (λ b. 32 < b) w → AllByRecursion (λ b. eqb b 32 ≡ false) w
dark-word [] h = tt
dark-word (b ∷ bs) h = (let more : 32 < b = h.0 in grind (arith, nat_tests, more), dark-word bs h.1)

no-blank : (w : List ℕ) → IsWord w → All (λ b. eqb b 32 ≡ false) w
no-blank w h = All-from_recursion (λ b. eqb b 32 ≡ false) w (dark-word w h.dark)

found-again : (w : List ℕ) (ws : List (List ℕ)) → IsWord w → AllByRecursion IsWord ws → words (joined (w ∷ ws)) ≡ w ∷ ws
found-again w [] h hs = ap words (append-nil w) ∙ slice_split_none (λ b. eqb b 32) w (no-blank w h)
found-again w (v ∷ vs) h hs = slice_split_at (λ b. eqb b 32) w 32 (joined (v ∷ vs)) (no-blank w h) refl ∙ ap (λ l. w ∷ l) (found-again v vs hs.0 hs.1)

pub words-joined : (ws : List (List ℕ)) → IsLine ws → words (joined ws) ≡ ws
words-joined [] h = absurd (omega (arith, h.some))
words-joined (w ∷ ws) h = found-again w ws h.each.0 h.each.1
