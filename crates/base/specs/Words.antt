use Rattle.std.specs.Prelude.{◌≡◌, ◌≢◌, ℕ, ◌<◌, ◌^◌, List, [], ◌∷◌, ◌++◌, Option, Some, None, ◌==◌}
use Rattle.std.specs.List.{flat_map, slice_split}
use Rattle.std.specs.Fmt.{decimal}
use Rattle.std.specs.Borrow.{Bor}

-- the words of a line, which stand between its blanks
abbrev pub words : List ℕ → List (List ℕ)
words line = slice_split (λ b. b == 32) line

-- words with a blank before each
abbrev pub spaced : List (List ℕ) → List ℕ
spaced words = flat_map (λ word. 32 ∷ word) words

-- words with a blank between two, and none at the ends
abbrev pub joined : List (List ℕ) → List ℕ
joined [] = []
joined (word ∷ words) = word ++ spaced words

-- the line has these words
abbrev pub IsSpelled : List ℕ → List (List ℕ) → Type 0
IsSpelled line parts = words line ≡ parts

-- the line isn't a number below 2 ^ first and a number below 2 ^ second
abbrev pub IsNoPair : ℕ → ℕ → List ℕ → Type 0
IsNoPair first second line = (a b : ℕ) → a < 2 ^ first → b < 2 ^ second → words line ≢ decimal a ∷ decimal b ∷ []

-- the words behind a blank, if there is one
abbrev pub words_behind : Option (Bor (List ℕ)) → List (List ℕ)
words_behind None = []
words_behind (Some rest) = words rest.now

-- the first of these words is no number below 2 ^ bits
abbrev pub IsNoNumberFirst : ℕ → List (List ℕ) → Type 0
IsNoNumberFirst bits line = (n : ℕ) (others : List (List ℕ)) → n < 2 ^ bits → line ≢ decimal n ∷ others
