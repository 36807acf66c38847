-- Which texts are numbers.
use Rattle.std.proofs.Common.{◌≡◌, ◌≢◌, ◌<◌, ◌≤◌, ◌+◌, ◌*◌, ◌^◌, ℕ, List, length, get_or, take, zero, suc}
use Rattle.std.proofs.Common.{ap, arith, subst, sym, ◌∙◌}
use Rattle.std.specs.Char.{digit_value}
use Rattle.std.specs.Fmt.{decimal}
use Rattle.std.specs.Str.Parse.{AllDigits, digits_value}
use Rattle.std.proofs.lemmas.Fmt.{decimal-digits_value, decimal_digit, decimal_nonempty, digits_decimal, digits_value-decimal, first_decimal}
use Rattle.std.proofs.lemmas.Int.Digits.{digits_value_more}
use Rattle.std.proofs.lemmas.Str.{digit_value_digit}
use Rattle.std.proofs.lemmas.Str.Parse.{IsNumeralModel, digit_at, digits_value-take-le, numerals_by_value, tells_digits}

own : IsNumeralModel (AllDigits 10) (digits_value 10)
own = numerals_by_value (AllDigits 10) tells_digits

-- one with a byte that is no digit isn't
pub not-a-digit : (text : List ℕ) (i m : ℕ) → i < length text → 10 ≤ digit_value (get_or text i 0) → m < 2 ^ 64 → text ≢ decimal m
not-a-digit text i m low far small is =
    let all : AllDigits 10 text = subst (AllDigits 10) (sym is) (digits_decimal own m small) in
    let digit = digit_at text i all low in
    let value = digit_value_digit (get_or text i 0) digit in
    absurd (omega (arith, far, value, digit))

-- one whose front is too large isn't
pub too-large : (text : List ℕ) (i n m : ℕ) → i < length text → n ≡ digits_value 10 (take i text) → 2 ^ 64 ≤ n * 10 + digit_value (get_or text i 0) →
    m < 2 ^ 64 → text ≢ decimal m
too-large text i n m low front large small is =
    let value : digits_value 10 text ≡ m = ap (digits_value 10) is ∙ digits_value-decimal own m small in
    let less = digits_value-take-le 10 text (i + 1) (omega arith) in
    let more = digits_value_more 10 text i low in
    absurd (omega (arith, front, large, small, value, less, more))

-- one that is empty isn't
pub not-empty : (text : List ℕ) (m : ℕ) → length text ≡ 0 → m < 2 ^ 64 → text ≢ decimal m
not-empty text m none small is =
    let some = decimal_nonempty m small in
    let same = ap length is in
    absurd (omega (arith, none, some, same))

-- one with a leading zero isn't
pub no-leading-zero : (text : List ℕ) (m : ℕ) → get_or text 0 0 ≡ 48 → length text ≢ 1 → m < 2 ^ 64 → text ≢ decimal m
no-leading-zero text zero first long small is = long (ap length is ∙ ap length (decimal_digit 0 (omega arith)))
no-leading-zero text (suc m) first long small is =
    let more = first_decimal (suc m) (omega arith) small in
    let same = ap (λ (t : List ℕ). get_or t 0 0) is in
    absurd (omega (arith, first, more, same))

-- one of digits alone is, where it has no leading zero and isn't too large
pub is-number : (text : List ℕ) (n : ℕ) → AllDigits 10 text → 0 < length text → (get_or text 0 0 ≡ 48 → length text ≡ 1) → n ≡ digits_value 10 text →
    n < 2 ^ 64 → text ≡ decimal n
is-number text n all some first value small =
    sym (decimal-digits_value own text all some first (omega (arith, value, small))) ∙ ap decimal (sym value)
