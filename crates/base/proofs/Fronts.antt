-- What stands in front of a line.
use Rattle.std.proofs.Common.{◌≡◌, Option, Some, zero, suc, ◌≤◌, ◌<◌, ◌-◌, ◌^◌, ℕ, List, [], ◌∷◌, ◌++◌, true, false, cond, eqb, length, get_or, take}
use Rattle.std.proofs.Common.{drop, refl, ap, sym, ◌∙◌, arith, length-append, length-drop, take-append-drop}
use Rattle.std.specs.List.{onto_first, join_with_byte}
use Rattle.std.proofs.lemmas.List.{append-nil, take_all, length-take}
use Rattle.std.proofs.lemmas.List.Splits.{length-slice_split, join_with_byte-slice_split, slice_split_none}
use Rattle.std.proofs.lemmas.Bool.Decides.{nat_tests}
use Rattle.std.proofs.lemmas.Str.Parse.{digit_at}
use Rattle.std.specs.Prelude.{All, ◌≢◌}
use Rattle.std.specs.Int.{IsInRange}
use Rattle.std.specs.Str.Parse.{AllDigits}
use Rattle.std.specs.Fmt.{decimal}
use Rattle.std.proofs.lemmas.Fmt.{decimal_injective}
use Rattle.base.specs.Words.{words, joined, spaced, IsNoPair}
use Rattle.base.specs.Words.{IsNoNumberFirst, words_behind}
use Rattle.base.proofs.Lines.{not_two}
use Rattle.base.proofs.Numbers.{is-number}
use Rattle.std.specs.Char.{digit_value}
use Rattle.std.specs.Borrow.{Bor}

-- words with a blank between two
joined-is : (ws : List (List ℕ)) → join_with_byte 32 ws ≡ joined ws
joined-is [] = refl
joined-is (w ∷ []) = sym (append-nil w)
joined-is (w ∷ v ∷ ws) = ap (λ l. w ++ 32 ∷ l) (joined-is (v ∷ ws))

-- the bytes of a line of these words
pub spelled : (line : List ℕ) (ws : List (List ℕ)) → words line ≡ ws → line ≡ joined ws
spelled line ws is = sym (join_with_byte-slice_split 32 line) ∙ ap (join_with_byte 32) is ∙ joined-is ws

onto : (x : ℕ) (parts more : List (List ℕ)) → 0 < length parts → onto_first x (parts ++ more) ≡ onto_first x parts ++ more
onto x [] more some = absurd (omega (arith, some))
onto x (part ∷ parts) more some = refl

some-part : (xs : List ℕ) → 0 < length (words xs)
some-part xs = omega (arith, length-slice_split (λ b. eqb b 32) xs)

-- the words of a line with a blank in it
pub words-append : (xs ys : List ℕ) → words (xs ++ 32 ∷ ys) ≡ words xs ++ words ys
words-append [] ys = refl
words-append (x ∷ xs) ys =
    elim (eqb x 32) as
    (λ t. cond t ([] ∷ words (xs ++ 32 ∷ ys)) (onto_first x (words (xs ++ 32 ∷ ys))) ≡ cond t ([] ∷ words xs) (onto_first x (words xs)) ++ words ys) [
      | true ↦ ap (λ l. [] ∷ l) (words-append xs ys)
      | false ↦ ap (onto_first x) (words-append xs ys) ∙ onto x (words xs) (words ys) (some-part xs)
    ]

-- the byte behind a front
behind-front : (front : List ℕ) (x : ℕ) (rest : List ℕ) → get_or (front ++ x ∷ rest) (length front) 0 ≡ x
behind-front [] x rest = refl
behind-front (y ∷ front) x rest = behind-front front x rest

-- a line doesn't begin with a word where no blank stands behind
pub other-behind : (line word : List ℕ) (others : List (List ℕ)) → length word < length line → get_or line (length word) 0 ≢ 32 → words line ≡ word ∷ others → ⊥
other-behind line word [] low other is =
    let whole = spelled line (word ∷ []) is in absurd (omega (arith, low, ap length whole, ap length (append-nil word)))
other-behind line word (o ∷ os) low other is =
    other (ap (λ l. get_or l (length word) 0) (spelled line (word ∷ o ∷ os) is) ∙ behind-front word 32 (o ++ spaced os))

-- what stands behind a word
pub with-behind : (line word : List ℕ) → line ≡ word ++ drop (length word) line → line ≡ word ++ take (length line - length word) (drop (length word) line)
with-behind line word is =
    is ∙ ap (λ l. word ++ l) (sym (take_all (length line - length word) (drop (length word) line) (omega (arith, length-drop {A = ℕ} (length word) line))))

-- a line that is one word
pub alone : (line word behind : List ℕ) → words word ≡ word ∷ [] → line ≡ word ++ behind → length behind < 1 → words line ≡ word ∷ []
alone line word [] one is none = ap words (is ∙ append-nil word) ∙ one
alone line word (x ∷ behind) one is none = absurd (omega (arith, none))

-- a word, a blank and what follows
pub then-more : (line word behind : List ℕ) → words word ≡ word ∷ [] → line ≡ word ++ behind → 1 ≤ length behind → get_or behind 0 0 ≡ 32 →
    words line ≡ word ∷ words (take (length behind - 1) (drop 1 behind))
then-more line word [] one is some blank = absurd (omega (arith, some))
then-more line word (x ∷ rest) one is some blank =
    ap words (is ∙ ap (λ y. word ++ y ∷ rest) blank) ∙ words-append word rest ∙ ap (λ l. l ++ words rest) one ∙ ap (λ l. word ∷ words l) whole
  where
    whole : rest ≡ take (length (x ∷ rest) - 1) rest
    whole = sym (take_all (length (x ∷ rest) - 1) rest (omega arith))

-- the same, where it is known of the line that the blank is there
pub followed : (line word behind : List ℕ) → words word ≡ word ∷ [] → line ≡ word ++ behind → 1 ≤ length behind →
    (length word < length line → get_or line (length word) 0 ≡ 32) → words line ≡ word ∷ words (take (length behind - 1) (drop 1 behind))
followed line word [] one is some blank = absurd (omega (arith, some))
followed line word (x ∷ rest) one is some blank =
    let longer : length word < length line = omega (arith, ap length is, length-append word (x ∷ rest)) in
    then-more line word (x ∷ rest) one is some (sym (behind-front word x rest) ∙ ap (λ l. get_or l (length word) 0) (sym is) ∙ blank longer)

-- digits aren't blanks
not-blank : (d : ℕ) → IsInRange 48 57 d → eqb d 32 ≡ false
not-blank d within = grind (arith, nat_tests, within.0, within.1)

no-blanks : (digits : List ℕ) → AllDigits 10 digits → All (λ b. eqb b 32 ≡ false) digits
no-blanks [] all = λ k d low. absurd (omega (arith, low))
no-blanks (x ∷ digits) all = each (no-blanks digits all.1)
  where
    each : All (λ b. eqb b 32 ≡ false) digits → (k d : ℕ) → k < length (x ∷ digits) → eqb (get_or (x ∷ digits) k d) 32 ≡ false
    each rest zero d low = not-blank x (digit_at (x ∷ digits) 0 all (omega arith))
    each rest (suc k) d low = rest k d (omega (arith, low))

one-number : (digits : List ℕ) → AllDigits 10 digits → words digits ≡ digits ∷ []
one-number digits all = slice_split_none (λ b. eqb b 32) digits (no-blanks digits all)

-- a line that is a number
pub number-alone : (line : List ℕ) (n end : ℕ) → end ≤ length line → AllDigits 10 (take end line) → take end line ≡ decimal n →
    length (take (length line - end) (drop end line)) < 1 → words line ≡ decimal n ∷ []
number-alone line n end within digits is none =
    let same : take end line ≡ line =
    take_all end line (omega (arith, none, length-take {A = ℕ} (length line - end) (drop end line), length-drop {A = ℕ} end line)) in
    ap words (sym same) ∙ one-number (take end line) digits ∙ ap (λ w. w ∷ []) is

-- a line that is a number, a blank and what follows
pub number-then : (line : List ℕ) (n end : ℕ) → end ≤ length line → AllDigits 10 (take end line) → take end line ≡ decimal n →
    1 ≤ length (take (length line - end) (drop end line)) → get_or (take (length line - end) (drop end line)) 0 0 ≡ 32 →
    words line ≡ decimal n ∷ words (take (length (take (length line - end) (drop end line)) - 1) (drop 1 (take (length line - end) (drop end line))))
number-then line n end within digits is some blank =
    let behind = take (length line - end) (drop end line) in
    let same : behind ≡ drop end line = take_all (length line - end) (drop end line) (omega (arith, length-drop {A = ℕ} end line)) in
    let whole : line ≡ take end line ++ behind = sym (take-append-drop end line) ∙ ap (λ l. take end line ++ l) (sym same) in
    then-more line (take end line) behind (one-number (take end line) digits) whole some blank
    ∙ ap (λ w. w ∷ words (take (length behind - 1) (drop 1 behind))) is

one-digit : (x d : ℕ) → d ≡ digit_value x → d < 10 → x ∷ [] ≡ decimal d
one-digit x d is small = is-number (x ∷ []) d (omega (arith, is, small), tt) (omega arith) (λ zero. refl) (omega (arith, is)) (omega (arith, small))

-- a line that is a digit
pub digit-alone : (line : List ℕ) (d : ℕ) → 1 ≤ length line → length line < 2 → d ≡ digit_value (get_or line 0 0) → d < 10 → words line ≡ decimal d ∷ []
digit-alone [] d some one is small = absurd (omega (arith, some))
digit-alone (x ∷ []) d some one is small =
    one-number (x ∷ []) (omega (arith, is, small), tt) ∙ ap (λ w. w ∷ []) (one-digit x d is small)
digit-alone (x ∷ y ∷ rest) d some one is small = absurd (omega (arith, one))

-- a line that is a digit, a blank and what follows
pub digit-then : (line : List ℕ) (d : ℕ) → 2 ≤ length line → get_or line 1 0 ≡ 32 → d ≡ digit_value (get_or line 0 0) → d < 10 →
    words line ≡ decimal d ∷ words (take (length line - 2) (drop 2 line))
digit-then [] d some blank is small = absurd (omega (arith, some))
digit-then (x ∷ []) d some blank is small = absurd (omega (arith, some))
digit-then (x ∷ y ∷ rest) d some blank is small =
    then-more (x ∷ y ∷ rest) (x ∷ []) (y ∷ rest) (one-number (x ∷ []) (omega (arith, is, small), tt)) refl (omega arith) blank
    ∙ ap (λ w. w ∷ words (take (length (y ∷ rest) - 1) rest)) (one-digit x d is small)
    ∙ ap (λ n. decimal d ∷ words (take n rest)) (omega arith)

-- a number that is too high isn't another below 2 ^ 32
pub too-high : (line rest : List (List ℕ)) (n : ℕ) → line ≡ decimal n ∷ rest → n < 2 ^ 64 → (n < 2 ^ 32 → ⊥) → IsNoNumberFirst 32 line
too-high line rest n is small high = λ m others low same.
    let front : decimal m ≡ decimal n = cc in
    let equal = decimal_injective m n (omega (arith, low)) small front in
    high (omega (arith, equal, low))

-- a line whose second word is no number isn't two of them
pub no-second : (line first : List ℕ) (rest : Option (Bor (List ℕ))) (behind : Bor (List ℕ)) → rest ≡ Some behind → words line ≡ first ∷ words_behind rest →
    IsNoNumberFirst 64 (words behind.now) → IsNoPair 32 64 line
no-second line first rest behind some is none = λ a b low small same.
    let more : words_behind rest ≡ words behind.now = ap words_behind some in none b [] small cc

-- nor is one with a third word
pub third : (line first second : List ℕ) (rest more : Option (Bor (List ℕ))) (behind last : Bor (List ℕ)) → rest ≡ Some behind → more ≡ Some last →
    words line ≡ first ∷ words_behind rest → words behind.now ≡ second ∷ words_behind more → IsNoPair 32 64 line
third line first second rest more behind last some also is next = λ a b low small.
    let here : words_behind rest ≡ words behind.now = ap words_behind some in
    let there : words_behind more ≡ words last.now = ap words_behind also in
    not_two (λ b. eqb b 32) last.now (words line) first second (decimal a) (decimal b) cc

-- a line that is a digit, another byte and what follows
pub digit-ahead : (line : List ℕ) (d end : ℕ) → 2 ≤ length line → get_or line 1 0 ≡ end → d ≡ digit_value (get_or line 0 0) → d < 10 →
    line ≡ decimal d ++ end ∷ take (length line - 2) (drop 2 line)
digit-ahead [] d end some next is small = absurd (omega (arith, some))
digit-ahead (x ∷ []) d end some next is small = absurd (omega (arith, some))
digit-ahead (x ∷ y ∷ rest) d end some next is small =
    ap (λ b. x ∷ b ∷ rest) next ∙ ap (λ w. w ++ end ∷ rest) (one-digit x d is small)
    ∙ ap (λ l. decimal d ++ end ∷ l) (sym (take_all (length (x ∷ y ∷ rest) - 2) rest (omega arith)))

-- a line that is a number, a byte and what follows
pub number-ahead : (line behind : List ℕ) (n count end : ℕ) → take count line ≡ decimal n → count ≤ length line →
    take (length line - count) (drop count line) ≡ end ∷ behind → line ≡ decimal n ++ end ∷ behind
number-ahead line behind n count end is within follows =
    let same : take (length line - count) (drop count line) ≡ drop count line =
    take_all (length line - count) (drop count line) (omega (arith, length-drop {A = ℕ} count line)) in
    sym (take-append-drop count line) ∙ ap (λ l. l ++ drop count line) is ∙ ap (λ l. decimal n ++ l) (sym same ∙ follows)
